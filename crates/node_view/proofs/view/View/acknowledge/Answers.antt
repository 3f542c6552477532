use Rattle.std.proofs.Common.{ap, ◌∙◌}
use Rattle.node_rules.specs.Transactions as rules
use Rattle.node_view.specs.Views.{Viewed}
use Rattle.node_view.proofs.ResolveLaws.{acked_noted, acked_view, agrees}
use Rattle.node_view.proofs.view.View.acknowledge.Goals as goal

pub invariant_of-self : goal.invariant_of-self
invariant_of-self c =
    let i = c.self.inside in
    agrees i c.acked.new.self i.notes i.writes c.self.invariant (acked_noted i.txns c.acked.new.self i.notes c.args.from c.args.transaction c.acked.ensures.after c.self.invariant.noted)

pub returns : goal.returns
returns c =
    acked_view c.self.inside c.acked.new.self c.args.from c.args.transaction c.acked.ensures.after c.self.invariant.noted
    ∙ ap (λ (v : Viewed). record v { transactions = rules.acknowledging v.transactions c.args.from c.args.transaction }) c.self.view_is
