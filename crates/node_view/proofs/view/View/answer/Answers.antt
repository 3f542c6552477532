use Rattle.std.proofs.Common.{ap, ◌∙◌}
use Rattle.node_rules.specs.Transactions as rules
use Rattle.node_view.specs.Views.{Viewed}
use Rattle.node_view.proofs.ResolveLaws.{agrees, answer_noted, answer_view}
use Rattle.node_view.proofs.view.View.answer.Goals as goal

pub invariant_of-self : goal.invariant_of-self
invariant_of-self c =
    let i = c.self.inside in
    agrees i c.on_answer.new.self i.notes i.writes c.self.invariant
    (answer_noted i.txns c.on_answer.new.self i.notes c.args.from c.args.transaction c.args.version c.on_answer.ensures.after c.self.invariant.noted)

pub returns : goal.returns
returns c =
    answer_view c.self.inside c.on_answer.new.self c.args.from c.args.transaction c.args.version c.on_answer.ensures.after c.self.invariant.noted
    ∙ ap (λ (v : Viewed). record v { transactions = rules.answering v.by v.transactions c.args.from c.args.transaction c.args.version }) c.self.view_is
