-- An answer of another node.
use Rattle.std.proofs.Common.{◌≡◌, ◌&&◌, ℕ, Bool, true, false, if◌then◌else◌, Option, Some, None, is_some, sym, ap, ap₂, subst, ◌∙◌}
use Rattle.std.specs.Prelude.{IfSome}
use Rattle.conflict_order.specs.declared.version.Version.{Version}
use Rattle.cluster_types.specs.declared.cluster_key.ClusterKey.{ClusterKey}
use Rattle.cluster_types.specs.Partitions.{partition_of}
use Rattle.wire_messages.specs.declared.message.Message.TheVariants as message
use Rattle.node_rules.specs.ByParts.{resolved, resolved_with}
use Rattle.node_rules.specs.Effects.{nothing}
use Rattle.node_rules.specs.Facts.{Facts, list_at}
use Rattle.node_rules.specs.Messages as due
use Rattle.node_rules.specs.Notes.{answer_came, in_view}
use Rattle.node_rules.specs.Steps.{after_message}
use Rattle.node_rules.specs.Transactions.{Transaction, answered, awaits_answer, is_last_awaited, transaction}
use Rattle.node_rules.proofs.PartLaws.{answer_is}
use Rattle.node_steps.specs.Resolvings.{AwaitsLast}
use Rattle.node_rules.specs.Resolving.{resolving}
use Rattle.node_rules.specs.StaleMessages.{spent, stale}
use Rattle.node_rules.specs.TransactionMessages.{answer_of}

-- ---- what is known after it

pub answer_after : (f : Facts) (clock from : ℕ) (key : ClusterKey) (number : ℕ) (v : Option Version) → in_view f key ≡ true
    → after_message f clock from (message.Answer key number v) ≡ resolved_with (answer_came f from number v true) clock from v (transaction f.transactions number)
answer_after f clock from key number v of_view =
    answer_is f clock from key number v
    ∙ ap (λ (b : Bool). (if b then resolved_with (answer_came f from number v true) clock from v (transaction f.transactions number) else f)) of_view

-- no transaction of that number is open
pub unknown_after : (f : Facts) (clock from : ℕ) (key : ClusterKey) (number : ℕ) (v : Option Version) → in_view f key ≡ true → transaction f.transactions number ≡ None
    → after_message f clock from (message.Answer key number v) ≡ answer_came f from number v true
unknown_after f clock from key number v of_view none =
    answer_after f clock from key number v of_view
    ∙ ap (λ (o : Option Transaction). resolved_with (answer_came f from number v true) clock from v o) none

-- the answer isn't awaited, or others are besides
pub unresolved_after : (f : Facts) (clock from : ℕ) (key : ClusterKey) (number : ℕ) (v : Option Version) (t : Transaction) → in_view f key ≡ true → transaction f.transactions number ≡ Some t
    → (awaits_answer t from && is_last_awaited t from) ≡ false
    → after_message f clock from (message.Answer key number v) ≡ answer_came f from number v true
unresolved_after f clock from key number v t of_view found open_still =
    let g : Facts = answer_came f from number v true in
    answer_after f clock from key number v of_view
    ∙ ap (λ (o : Option Transaction). resolved_with g clock from v o) found
    ∙ ap (λ (b : Bool). if b then resolved g clock (list_at g (partition_of t.digest)) (answered g.store.by from v t) else g) open_still

-- ---- what is due of it

pub answer_due : (f : Facts) (clock from : ℕ) (key : ClusterKey) (number : ℕ) (v : Option Version) → in_view f key ≡ true
    → due.due_answer f clock from key number v ≡ due.answer_of f clock from v (transaction f.transactions number)
answer_due f clock from key number v of_view = ap (λ (b : Bool). (if b then answer_of f clock from v (transaction f.transactions number) else stale f)) of_view

pub unknown_due : (f : Facts) (clock from : ℕ) (key : ClusterKey) (number : ℕ) (v : Option Version) → in_view f key ≡ true → transaction f.transactions number ≡ None
    → due.due_answer f clock from key number v ≡ due.spent f
unknown_due f clock from key number v of_view none =
    answer_due f clock from key number v of_view ∙ ap (λ (o : Option Transaction). due.answer_of f clock from v o) none

pub unawaited_due : (f : Facts) (clock from : ℕ) (key : ClusterKey) (number : ℕ) (v : Option Version) (t : Transaction) → in_view f key ≡ true → transaction f.transactions number ≡ Some t
    → awaits_answer t from ≡ false → due.due_answer f clock from key number v ≡ due.spent f
unawaited_due f clock from key number v t of_view found awaited =
    answer_due f clock from key number v of_view
    ∙ ap (λ (o : Option Transaction). due.answer_of f clock from v o) found
    ∙ ap (λ (b : Bool). (if b then (if is_last_awaited t from then resolving f clock (list_at f (partition_of (answered f.store.by from v t).digest)) (answered f.store.by from v t) else nothing) else spent f)) awaited

-- others are awaited besides
pub waiting_due : (f : Facts) (clock from : ℕ) (key : ClusterKey) (number : ℕ) (v : Option Version) (t : Transaction) → in_view f key ≡ true → transaction f.transactions number ≡ Some t
    → awaits_answer t from ≡ true → is_last_awaited t from ≡ false → due.due_answer f clock from key number v ≡ nothing
waiting_due f clock from key number v t of_view found awaited last =
    answer_due f clock from key number v of_view
    ∙ ap (λ (o : Option Transaction). due.answer_of f clock from v o) found
    ∙ ap (λ (b : Bool). (if b then (if is_last_awaited t from then resolving f clock (list_at f (partition_of (answered f.store.by from v t).digest)) (answered f.store.by from v t) else nothing) else spent f)) awaited
    ∙ ap (λ (b : Bool). (if b then resolving f clock (list_at f (partition_of (answered f.store.by from v t).digest)) (answered f.store.by from v t) else nothing)) last

-- the answer is the last that the open transaction awaits
pub awaits_last : (f : Facts) (from number : ℕ) (t : Transaction) → transaction f.transactions number ≡ Some t → awaits_answer t from ≡ true → is_last_awaited t from ≡ true → AwaitsLast f from number
awaits_last f from number t found awaited last = record {
  open_one = ap is_some found;
  awaited = subst (λ (o : Option Transaction). IfSome o (λ x. awaits_answer x from ≡ true)) (sym found) awaited;
  last = subst (λ (o : Option Transaction). IfSome o (λ x. is_last_awaited x from ≡ true)) (sym found) last;
}

-- whether it resolves the transaction
pub both_are : (t : Transaction) (from : ℕ) (a b : Bool) → awaits_answer t from ≡ a → is_last_awaited t from ≡ b → (awaits_answer t from && is_last_awaited t from) ≡ (a && b)
both_are t from a b awaited last = ap₂ (λ (x y : Bool). x && y) awaited last
