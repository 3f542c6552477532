use Rattle.std.proofs.Common.{◌≡◌, true, false, sym, ◌∙◌}
use Rattle.exchange.proofs.ServedLaws.{quiet_sends, told_sends}
use Rattle.exchange.proofs.exchanged.ExchangedMapView.sends.Goals as goal
use Rattle.exchange.proofs.exchanged.ExchangedMapView.sends.Goals.{then-is_replica, else-is_replica}

pub returns-then-is_all_empty : goal.returns-then-is_all_empty
returns-then-is_all_empty c =
    quiet_sends c.self.inside.view.me c.self.inside.view.factor c.self.inside.view.key c.self.inside.view.lists c.self.inside.view.rows.items _ c.args.p c.args.from c.args.to c.args.self.now
    c.self.view_is c.self.invariant.0 c.if-is_all_empty.ensures

pub returns-then-ne : goal.returns-then-ne
returns-then-ne c =
    elim c.if-is_replica.branch [
      | then-is_replica w ↦
          told_sends c.self.inside.view.me c.self.inside.view.factor c.self.inside.view.key c.self.inside.view.lists c.self.inside.view.rows.items c.args.p c.args.from c.args.to c.list.result c.states.result c.sends.result c.args.self.now
          c.self.view_is c.list.ensures c.states.ensures (sym c.is_replica.ensures ∙ w.if-is_replica.true) (sym w.ne.ensures ∙ sym w.value-is ∙ c.if-ne.true) c.sends.ensures
      | else-is_replica w ↦ absurd (let wrong : false ≡ true = sym w.if-is_replica.false ∙ sym w.value-is ∙ c.if-ne.true in cc)
    ]
