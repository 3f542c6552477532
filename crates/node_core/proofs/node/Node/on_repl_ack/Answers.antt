use Rattle.std.proofs.Common.{◌≡◌, ◌&&◌, Bool, true, false, Option, Some, None, is_some, IfOk, OnErr, OnOk, sym, ap, subst, ◌∙◌}
use Rattle.dup_resolve.specs.declared.txn.Txn.{Txn}
use Rattle.dup_resolve.specs.Open as table
use Rattle.node_rules.specs.Effects as rules
use Rattle.node_rules.specs.Facts.{Facts}
use Rattle.node_rules.specs.Steps.{Planning, planning}
use Rattle.node_rules.specs.Transactions.{Transaction, awaits_ack, ends_by_ack, is_last_awaited, transaction}
use Rattle.node_steps.specs.Spelled.{spelled}
use Rattle.node_steps.proofs.AckLaws.{ack_after, ack_spent, ack_told, found_none, found_one, unawaited_told, unknown_told}
use Rattle.node_core.proofs.HandlerLaws.{in_one, still}
use Rattle.node_steps.proofs.RangeLaws.{ranges_acked}
use Rattle.node_core.proofs.node.Node.on_repl_ack.Goals as goal

pub spent-requires-clause-fits : goal.spent-requires-clause-fits
spent-requires-clause-fits c = record { step = tt; in_one = in_one c.args.self.now.now c.args.key (sym c.in-Some.ensures.some) }

pub spent-requires-clause-ranges : goal.spent-requires-clause-ranges
spent-requires-clause-ranges c =
    ranges_acked c.args.self.now.now c.args.from c.args.transaction

pub returns-in_default-transaction-clause-effects : goal.returns-in_default-transaction-clause-effects
returns-in_default-transaction-clause-effects c =
    let f = c.args.self.now.now in
    let none : transaction f.transactions c.args.transaction ≡ None = ap (λ (g : Facts). transaction g.transactions c.args.transaction) (sym c.in-Some.ensures.view.viewed.view) ∙ found_none (transaction c.in-Some.view.now.transactions c.args.transaction) c.in_default-transaction.ensures in
    subst (λ (e : rules.Effects). IfOk c.spent.result (λ x. x ≡ spelled e)) (sym (unknown_told f c.args.from c.args.key c.args.transaction (sym c.in-Some.ensures.some) none)) c.spent.ensures.effects

pub returns-in_default-transaction-clause-planned : goal.returns-in_default-transaction-clause-planned
returns-in_default-transaction-clause-planned c =
    let f = c.args.self.now.now in
    let none : transaction f.transactions c.args.transaction ≡ None = ap (λ (g : Facts). transaction g.transactions c.args.transaction) (sym c.in-Some.ensures.view.viewed.view) ∙ found_none (transaction c.in-Some.view.now.transactions c.args.transaction) c.in_default-transaction.ensures in
    subst (λ (g : Facts). OnOk c.spent.result (c.spent.new.self ≡ planning f g)) (sym (ack_spent f c.args.from c.args.key c.args.transaction (sym c.in-Some.ensures.some) (ap (λ (o : Option Transaction). ends_by_ack o c.args.from) none))) c.spent.ensures.planned

pub returns-in_default-transaction-clause-err : goal.returns-in_default-transaction-clause-err
returns-in_default-transaction-clause-err c =
    subst (λ (q : Planning). OnErr c.spent.result (c.spent.new.self ≡ q)) (still c.args.self.now c.requires.unplanned) c.spent.ensures.err

pub spent-requires-then-not-awaits_ack-clause-fits : goal.spent-requires-then-not-awaits_ack-clause-fits
spent-requires-then-not-awaits_ack-clause-fits c = record { step = tt; in_one = in_one c.args.self.now.now c.args.key (sym c.in-Some.ensures.some) }

pub spent-requires-then-not-awaits_ack-clause-ranges : goal.spent-requires-then-not-awaits_ack-clause-ranges
spent-requires-then-not-awaits_ack-clause-ranges c =
    ranges_acked c.args.self.now.now c.args.from c.args.transaction

pub returns-then-not-awaits_ack-clause-effects : goal.returns-then-not-awaits_ack-clause-effects
returns-then-not-awaits_ack-clause-effects c =
    let f = c.args.self.now.now in
    let from = c.args.from in
    let it = found_one c.in-Some-transaction.txn.now (transaction c.in-Some.view.now.transactions c.args.transaction) c.in-Some-transaction.ensures in
    let found : transaction f.transactions c.args.transaction ≡ Some it.txn = ap (λ (g : Facts). transaction g.transactions c.args.transaction) (sym c.in-Some.ensures.view.viewed.view) ∙ it.found in
    let awaited : awaits_ack it.txn from ≡ false = ap (λ (x : Txn). table.txn_awaits_ack x from) (sym it.kept) ∙ sym c.if-not-awaits_ack.ensures in
    subst (λ (e : rules.Effects). IfOk c.spent-then-not-awaits_ack.result (λ x. x ≡ spelled e)) (sym (unawaited_told f from c.args.key c.args.transaction it.txn (sym c.in-Some.ensures.some) found awaited)) c.spent-then-not-awaits_ack.ensures.effects

pub returns-then-not-awaits_ack-clause-planned : goal.returns-then-not-awaits_ack-clause-planned
returns-then-not-awaits_ack-clause-planned c =
    let f = c.args.self.now.now in
    let from = c.args.from in
    let it = found_one c.in-Some-transaction.txn.now (transaction c.in-Some.view.now.transactions c.args.transaction) c.in-Some-transaction.ensures in
    let found : transaction f.transactions c.args.transaction ≡ Some it.txn = ap (λ (g : Facts). transaction g.transactions c.args.transaction) (sym c.in-Some.ensures.view.viewed.view) ∙ it.found in
    let awaited : awaits_ack it.txn from ≡ false = ap (λ (x : Txn). table.txn_awaits_ack x from) (sym it.kept) ∙ sym c.if-not-awaits_ack.ensures in
    subst (λ (g : Facts). OnOk c.spent-then-not-awaits_ack.result (c.spent-then-not-awaits_ack.new.self ≡ planning f g))
    (sym (ack_spent f from c.args.key c.args.transaction (sym c.in-Some.ensures.some) (ap (λ (o : Option Transaction). ends_by_ack o from) found ∙ ap (λ (b : Bool). b && is_last_awaited it.txn from) awaited))) c.spent-then-not-awaits_ack.ensures.planned

pub returns-then-not-awaits_ack-clause-err : goal.returns-then-not-awaits_ack-clause-err
returns-then-not-awaits_ack-clause-err c =
    subst (λ (q : Planning). OnErr c.spent-then-not-awaits_ack.result (c.spent-then-not-awaits_ack.new.self ≡ q)) (still c.args.self.now c.requires.unplanned) c.spent-then-not-awaits_ack.ensures.err

pub plan_ack-requires-clause-in_one : goal.plan_ack-requires-clause-in_one
plan_ack-requires-clause-in_one c = in_one c.args.self.now.now c.args.key (sym c.in-Some.ensures.some)

pub plan_ack-requires-clause-open_one : goal.plan_ack-requires-clause-open_one
plan_ack-requires-clause-open_one c =
    let it = found_one c.in-Some-transaction.txn.now (transaction c.in-Some.view.now.transactions c.args.transaction) c.in-Some-transaction.ensures in
    ap is_some (ap (λ (g : Facts). transaction g.transactions c.args.transaction) (sym c.in-Some.ensures.view.viewed.view) ∙ it.found)

pub returns-clause-effects : goal.returns-clause-effects
returns-clause-effects c =
    let f = c.args.self.now.now in
    let from = c.args.from in
    let it = found_one c.in-Some-transaction.txn.now (transaction c.in-Some.view.now.transactions c.args.transaction) c.in-Some-transaction.ensures in
    let found : transaction f.transactions c.args.transaction ≡ Some it.txn = ap (λ (g : Facts). transaction g.transactions c.args.transaction) (sym c.in-Some.ensures.view.viewed.view) ∙ it.found in
    let awaited : awaits_ack it.txn from ≡ true = ap (λ (x : Txn). table.txn_awaits_ack x from) (sym it.kept) ∙ sym c.if-not-awaits_ack.ensures in
    let last : is_last_awaited it.txn from ≡ c.is_last_awaited-is_last.result = ap (λ (x : Txn). table.txn_awaits_only x from) (sym it.kept) ∙ sym c.is_last_awaited-is_last.ensures in
    subst (λ (e : rules.Effects). IfOk c.plan_ack.result (λ x. x ≡ spelled e)) (sym (ack_told f from c.args.key c.args.transaction it.txn c.is_last_awaited-is_last.result (sym c.in-Some.ensures.some) found awaited last)) c.plan_ack.ensures.effects

pub returns-clause-planned : goal.returns-clause-planned
returns-clause-planned c =
    let f = c.args.self.now.now in
    let from = c.args.from in
    let it = found_one c.in-Some-transaction.txn.now (transaction c.in-Some.view.now.transactions c.args.transaction) c.in-Some-transaction.ensures in
    let found : transaction f.transactions c.args.transaction ≡ Some it.txn = ap (λ (g : Facts). transaction g.transactions c.args.transaction) (sym c.in-Some.ensures.view.viewed.view) ∙ it.found in
    let awaited : awaits_ack it.txn from ≡ true = ap (λ (x : Txn). table.txn_awaits_ack x from) (sym it.kept) ∙ sym c.if-not-awaits_ack.ensures in
    let last : is_last_awaited it.txn from ≡ c.is_last_awaited-is_last.result = ap (λ (x : Txn). table.txn_awaits_only x from) (sym it.kept) ∙ sym c.is_last_awaited-is_last.ensures in
    subst (λ (g : Facts). OnOk c.plan_ack.result (c.plan_ack.new.self ≡ planning f g)) (sym (ack_after f from c.args.key c.args.transaction it.txn c.is_last_awaited-is_last.result (sym c.in-Some.ensures.some) found awaited last)) c.plan_ack.ensures.planned

pub returns-clause-err : goal.returns-clause-err
returns-clause-err c =
    subst (λ (q : Planning). OnErr c.plan_ack.result (c.plan_ack.new.self ≡ q)) (still c.args.self.now c.requires.unplanned) c.plan_ack.ensures.err
