use Rattle.std.proofs.Common.{◌≡◌, ◌&&◌, Bool, true, false, Option, Some, None, IfOk, OnErr, OnOk, sym, ap, subst, ◌∙◌}
use Rattle.std.specs.Option.{option_copied}
use Rattle.conflict_order.specs.declared.version.Version.{Version}
use Rattle.dup_resolve.specs.declared.txn.Txn.{Txn}
use Rattle.dup_resolve.specs.Open as table
use Rattle.wire_messages.specs.Versions.{IsOptionVersion}
use Rattle.node_rules.specs.Effects as rules
use Rattle.node_rules.specs.Facts.{Facts}
use Rattle.node_rules.specs.Steps.{Planning, planning}
use Rattle.node_rules.specs.Transactions.{awaits_answer, is_last_awaited, transaction}
use Rattle.node_steps.specs.Spelled.{spelled}
use Rattle.node_view.specs.Plans.{with_answer}
use Rattle.node_steps.proofs.AckLaws.{found_none, found_one}
use Rattle.node_core.proofs.AnswerMessageLaws.{answer_after, answer_due, awaits_last, both_are, unawaited_due, unknown_after, unknown_due, unresolved_after, waiting_due}
use Rattle.node_core.proofs.HandlerLaws.{in_one, still}
use Rattle.node_steps.proofs.StepRanges.{answered_ranges}
use Rattle.node_core.proofs.node.Node.on_answer.Goals as goal

pub plan_answer-requires-clause-in_one : goal.plan_answer-requires-clause-in_one
plan_answer-requires-clause-in_one c = in_one c.args.self.now.now c.args.key (sym c.in-Some.ensures.some)

pub returns-in_default-transaction-clause-effects : goal.returns-in_default-transaction-clause-effects
returns-in_default-transaction-clause-effects c =
    let f = c.args.self.now.now in
    let from = c.args.from in
    let v : Option Version = option_copied c.args.version in
    let of_view = sym c.in-Some.ensures.some in
    let none : transaction f.transactions c.args.transaction ≡ None = ap (λ (g : Facts). transaction g.transactions c.args.transaction) (sym c.in-Some.ensures.view.viewed.view) ∙ found_none (transaction c.in-Some.view.now.transactions c.args.transaction) c.in_default-transaction.ensures in
    subst (λ (e : rules.Effects). IfOk c.plan_answer.result (λ x. x ≡ spelled e)) (sym (unknown_due f c.args.clock from c.args.key c.args.transaction v of_view none)) c.plan_answer.ensures.effects

pub returns-in_default-transaction-clause-planned : goal.returns-in_default-transaction-clause-planned
returns-in_default-transaction-clause-planned c =
    let f = c.args.self.now.now in
    let from = c.args.from in
    let v : Option Version = option_copied c.args.version in
    let of_view = sym c.in-Some.ensures.some in
    let none : transaction f.transactions c.args.transaction ≡ None = ap (λ (g : Facts). transaction g.transactions c.args.transaction) (sym c.in-Some.ensures.view.viewed.view) ∙ found_none (transaction c.in-Some.view.now.transactions c.args.transaction) c.in_default-transaction.ensures in
    subst (λ (g : Facts). OnOk c.plan_answer.result (c.plan_answer.new.self ≡ planning f g)) (sym (unknown_after f c.args.clock from c.args.key c.args.transaction v of_view none)) c.plan_answer.ensures.planned

pub returns-in_default-transaction-clause-err : goal.returns-in_default-transaction-clause-err
returns-in_default-transaction-clause-err c =
    subst (λ (q : Planning). OnErr c.plan_answer.result (c.plan_answer.new.self ≡ q)) (still c.args.self.now c.requires.unplanned) c.plan_answer.ensures.err

pub plan_answer-requires-then-not-awaits_answer-clause-in_one : goal.plan_answer-requires-then-not-awaits_answer-clause-in_one
plan_answer-requires-then-not-awaits_answer-clause-in_one c = in_one c.args.self.now.now c.args.key (sym c.in-Some.ensures.some)

pub returns-then-not-awaits_answer-clause-effects : goal.returns-then-not-awaits_answer-clause-effects
returns-then-not-awaits_answer-clause-effects c =
    let f = c.args.self.now.now in
    let from = c.args.from in
    let v : Option Version = option_copied c.args.version in
    let of_view = sym c.in-Some.ensures.some in
    let it = found_one c.in-Some-transaction.txn.now (transaction c.in-Some.view.now.transactions c.args.transaction) c.in-Some-transaction.ensures in
    let found : transaction f.transactions c.args.transaction ≡ Some it.txn = ap (λ (g : Facts). transaction g.transactions c.args.transaction) (sym c.in-Some.ensures.view.viewed.view) ∙ it.found in
    let awaited : awaits_answer it.txn from ≡ false = ap (λ (x : Txn). table.txn_awaits_answer x from) (sym it.kept) ∙ sym c.if-not-awaits_answer.ensures in
    subst (λ (e : rules.Effects). IfOk c.plan_answer-then-not-awaits_answer.result (λ x. x ≡ spelled e)) (sym (unawaited_due f c.args.clock from c.args.key c.args.transaction v it.txn of_view found awaited)) c.plan_answer-then-not-awaits_answer.ensures.effects

pub returns-then-not-awaits_answer-clause-planned : goal.returns-then-not-awaits_answer-clause-planned
returns-then-not-awaits_answer-clause-planned c =
    let f = c.args.self.now.now in
    let from = c.args.from in
    let v : Option Version = option_copied c.args.version in
    let of_view = sym c.in-Some.ensures.some in
    let it = found_one c.in-Some-transaction.txn.now (transaction c.in-Some.view.now.transactions c.args.transaction) c.in-Some-transaction.ensures in
    let found : transaction f.transactions c.args.transaction ≡ Some it.txn = ap (λ (g : Facts). transaction g.transactions c.args.transaction) (sym c.in-Some.ensures.view.viewed.view) ∙ it.found in
    let awaited : awaits_answer it.txn from ≡ false = ap (λ (x : Txn). table.txn_awaits_answer x from) (sym it.kept) ∙ sym c.if-not-awaits_answer.ensures in
    subst (λ (g : Facts). OnOk c.plan_answer-then-not-awaits_answer.result (c.plan_answer-then-not-awaits_answer.new.self ≡ planning f g)) (sym (unresolved_after f c.args.clock from c.args.key c.args.transaction v it.txn of_view found (ap (λ (b : Bool). b && is_last_awaited it.txn from) awaited))) c.plan_answer-then-not-awaits_answer.ensures.planned

pub returns-then-not-awaits_answer-clause-err : goal.returns-then-not-awaits_answer-clause-err
returns-then-not-awaits_answer-clause-err c =
    subst (λ (q : Planning). OnErr c.plan_answer-then-not-awaits_answer.result (c.plan_answer-then-not-awaits_answer.new.self ≡ q)) (still c.args.self.now c.requires.unplanned) c.plan_answer-then-not-awaits_answer.ensures.err

pub plan_last_answer-requires-clause-last : goal.plan_last_answer-requires-clause-last
plan_last_answer-requires-clause-last c =
    let f = c.args.self.now.now in
    let from = c.args.from in
    let it = found_one c.in-Some-transaction.txn.now (transaction c.in-Some.view.now.transactions c.args.transaction) c.in-Some-transaction.ensures in
    let found : transaction f.transactions c.args.transaction ≡ Some it.txn = ap (λ (g : Facts). transaction g.transactions c.args.transaction) (sym c.in-Some.ensures.view.viewed.view) ∙ it.found in
    let awaited : awaits_answer it.txn from ≡ true = ap (λ (x : Txn). table.txn_awaits_answer x from) (sym it.kept) ∙ sym c.if-not-awaits_answer.ensures in
    let last : is_last_awaited it.txn from ≡ true = ap (λ (x : Txn). table.txn_awaits_only x from) (sym it.kept) ∙ sym c.if-is_last_awaited.ensures in
    awaits_last f from c.args.transaction it.txn found awaited last

pub plan_last_answer-requires-clause-in_one : goal.plan_last_answer-requires-clause-in_one
plan_last_answer-requires-clause-in_one c = in_one c.args.self.now.now c.args.key (sym c.in-Some.ensures.some)

pub returns-then-is_last_awaited-clause-effects : goal.returns-then-is_last_awaited-clause-effects
returns-then-is_last_awaited-clause-effects c =
    let f = c.args.self.now.now in
    let from = c.args.from in
    let v : Option Version = option_copied c.args.version in
    let of_view = sym c.in-Some.ensures.some in
    subst (λ (e : rules.Effects). IfOk c.plan_last_answer.result (λ x. x ≡ spelled e)) (sym (answer_due f c.args.clock from c.args.key c.args.transaction v of_view)) c.plan_last_answer.ensures.effects

pub returns-then-is_last_awaited-clause-planned : goal.returns-then-is_last_awaited-clause-planned
returns-then-is_last_awaited-clause-planned c =
    let f = c.args.self.now.now in
    let from = c.args.from in
    let v : Option Version = option_copied c.args.version in
    let of_view = sym c.in-Some.ensures.some in
    subst (λ (g : Facts). OnOk c.plan_last_answer.result (c.plan_last_answer.new.self ≡ planning f g)) (sym (answer_after f c.args.clock from c.args.key c.args.transaction v of_view)) c.plan_last_answer.ensures.planned

pub returns-then-is_last_awaited-clause-err : goal.returns-then-is_last_awaited-clause-err
returns-then-is_last_awaited-clause-err c =
    subst (λ (q : Planning). OnErr c.plan_last_answer.result (c.plan_last_answer.new.self ≡ q)) (still c.args.self.now c.requires.unplanned) c.plan_last_answer.ensures.err

pub plan_answer-requires-2-clause-in_one : goal.plan_answer-requires-2-clause-in_one
plan_answer-requires-2-clause-in_one c = in_one c.args.self.now.now c.args.key (sym c.in-Some.ensures.some)

pub returns-clause-effects : goal.returns-clause-effects
returns-clause-effects c =
    let f = c.args.self.now.now in
    let from = c.args.from in
    let v : Option Version = option_copied c.args.version in
    let of_view = sym c.in-Some.ensures.some in
    let it = found_one c.in-Some-transaction.txn.now (transaction c.in-Some.view.now.transactions c.args.transaction) c.in-Some-transaction.ensures in
    let found : transaction f.transactions c.args.transaction ≡ Some it.txn = ap (λ (g : Facts). transaction g.transactions c.args.transaction) (sym c.in-Some.ensures.view.viewed.view) ∙ it.found in
    let awaited : awaits_answer it.txn from ≡ true = ap (λ (x : Txn). table.txn_awaits_answer x from) (sym it.kept) ∙ sym c.if-not-awaits_answer.ensures in
    let last : is_last_awaited it.txn from ≡ false = ap (λ (x : Txn). table.txn_awaits_only x from) (sym it.kept) ∙ sym c.if-is_last_awaited.ensures in
    subst (λ (e : rules.Effects). IfOk c.plan_answer-2.result (λ x. x ≡ spelled e)) (sym (waiting_due f c.args.clock from c.args.key c.args.transaction v it.txn of_view found awaited last)) c.plan_answer-2.ensures.effects

pub returns-clause-planned : goal.returns-clause-planned
returns-clause-planned c =
    let f = c.args.self.now.now in
    let from = c.args.from in
    let v : Option Version = option_copied c.args.version in
    let of_view = sym c.in-Some.ensures.some in
    let it = found_one c.in-Some-transaction.txn.now (transaction c.in-Some.view.now.transactions c.args.transaction) c.in-Some-transaction.ensures in
    let found : transaction f.transactions c.args.transaction ≡ Some it.txn = ap (λ (g : Facts). transaction g.transactions c.args.transaction) (sym c.in-Some.ensures.view.viewed.view) ∙ it.found in
    let awaited : awaits_answer it.txn from ≡ true = ap (λ (x : Txn). table.txn_awaits_answer x from) (sym it.kept) ∙ sym c.if-not-awaits_answer.ensures in
    let last : is_last_awaited it.txn from ≡ false = ap (λ (x : Txn). table.txn_awaits_only x from) (sym it.kept) ∙ sym c.if-is_last_awaited.ensures in
    subst (λ (g : Facts). OnOk c.plan_answer-2.result (c.plan_answer-2.new.self ≡ planning f g)) (sym (unresolved_after f c.args.clock from c.args.key c.args.transaction v it.txn of_view found (both_are it.txn from true false awaited last))) c.plan_answer-2.ensures.planned

pub returns-clause-err : goal.returns-clause-err
returns-clause-err c =
    subst (λ (q : Planning). OnErr c.plan_answer-2.result (c.plan_answer-2.new.self ≡ q)) (still c.args.self.now c.requires.unplanned) c.plan_answer-2.ensures.err
