use Rattle.std.proofs.Common.{◌+◌, ap, sym, ◌∙◌}
use Rattle.std.specs.FinMap as finite
use Rattle.node_rules.specs.Transactions.{Transactions}
use Rattle.node_steps.proofs.ViewLaws.{transactions_are}
use Rattle.node_steps.proofs.WritingLaws.{holds_itself, node_alike, opened_is, told_opening}
use Rattle.node_steps.proofs.resolving.plan_opened.Goals as goal

pub returns-clause-step : goal.returns-clause-step
returns-clause-step c = λ f h.
    let v = c.args.view.now in
    let number = c.in_ok-transaction.ensures.number ∙ ap (λ (ts : Transactions). ts.opened + 1) (transactions_are f v h.view.viewed) in
    let held = c.in_ok-copy_of.ensures ∙ c.get.ensures ∙ ap (λ m. finite.get m c.args.digest) (sym h.stored.content) in
    opened_is f v c.plan_opening.new.self c.args.clock c.args.digest c.args.want c.in_ok-transaction.transaction c.in_ok-copy_of.field-0 c.in_ok-transaction.asked c.in_ok-outcome.outcome
    c.in_ok-transaction.ensures.same.alike number held (c.in_ok-transaction.ensures.asked f h.view.viewed) c.in_ok-outcome.ensures.outcome

pub returns-clause-effects : goal.returns-clause-effects
returns-clause-effects c = λ f h.
    let v = c.args.view.now in
    let w = c.plan_opening.new.self in
    let same = c.in_ok-transaction.ensures.same in
    let number = c.in_ok-transaction.ensures.number ∙ ap (λ (ts : Transactions). ts.opened + 1) (transactions_are f v h.view.viewed) in
    let held = c.in_ok-copy_of.ensures ∙ c.get.ensures ∙ ap (λ m. finite.get m c.args.digest) (sym h.stored.content) in
    c.in_ok-outcome.ensures.effects f (node_alike f v w c.args.store.now c.args.store.now same (holds_itself c.args.store.now) h)
    ∙ rw (c.in_ok-push.ensures.ok, c.new-out.ensures, c.me.ensures, c.key.ensures, c.action.ensures)
    (told_opening f v w c.args.clock c.args.digest c.args.want c.in_ok-transaction.transaction c.in_ok-copy_of.field-0 c.in_ok-transaction.asked h.view.viewed same.alike number held (c.in_ok-transaction.ensures.asked f h.view.viewed))

pub returns-clause-room : goal.returns-clause-room
returns-clause-room c =
    (rw c.in_ok-outcome.ensures.other_room c.in_ok-transaction.ensures.room, c.in_ok-outcome.ensures.room)
