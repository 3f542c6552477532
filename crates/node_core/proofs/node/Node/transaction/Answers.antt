use Rattle.std.proofs.Common.{ap, ◌∙◌}
use Rattle.std.specs.Prelude.{option_map}
use Rattle.node_rules.specs.Transactions as rules
use Rattle.node_view.specs.Transactions.{kept_of}
use Rattle.node_steps.proofs.ViewLaws.{found_alike, found_kept, transactions_are}
use Rattle.node_core.proofs.node.Node.transaction.Goals as goal

pub returns-clause-some : goal.returns-clause-some
returns-clause-some c =
    let same = transactions_are c.args.self.now.now c.in_ok-own_view.field-0.now c.in_ok-own_view.ensures.view.viewed in
    found_alike c.transaction.result (rules.transaction c.args.self.now.now.transactions c.args.t)
    (c.transaction.ensures ∙ ap (λ (ts : rules.Transactions). option_map kept_of (rules.transaction ts c.args.t)) same)

pub returns-clause-kept : goal.returns-clause-kept
returns-clause-kept c =
    let same = transactions_are c.args.self.now.now c.in_ok-own_view.field-0.now c.in_ok-own_view.ensures.view.viewed in
    found_kept c.transaction.result (rules.transaction c.args.self.now.now.transactions c.args.t)
    (c.transaction.ensures ∙ ap (λ (ts : rules.Transactions). option_map kept_of (rules.transaction ts c.args.t)) same)
