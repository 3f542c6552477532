use Rattle.std.proofs.Common.{◌∙◌}
use Rattle.exchange.proofs.ServedLaws.{quiet_asks, told_asks}
use Rattle.exchange.proofs.exchanged.ExchangedMapView.asks.Goals as goal

pub returns-then-is_all_empty : goal.returns-then-is_all_empty
returns-then-is_all_empty c =
    c.new.ensures
    ∙ quiet_asks c.self.inside.view.me c.self.inside.view.factor c.self.inside.view.key c.self.inside.view.lists c.self.inside.view.rows.items _ c.args.p c.args.by c.args.self.now
    c.self.view_is c.self.invariant.0 c.if-is_all_empty.ensures

pub returns : goal.returns
returns c =
    told_asks c.self.inside.view.me c.self.inside.view.factor c.self.inside.view.key c.self.inside.view.lists c.self.inside.view.rows.items c.args.p c.args.by c.list.result c.states.result c.asked_by.result c.args.self.now
    c.self.view_is c.list.ensures c.states.ensures c.asked_by.ensures
