-- The transactions that are open at a node, as a caller sees them, and what calls make of them.
use Rattle.std.specs.Prelude.{◌≡◌, ℕ, ◌==◌, ◌&&◌, Bool, true, false, not, if◌then◌else◌, List, [], Option, Some, None, find, filter, map, option_map, bytes_eq}
use Rattle.std.specs.List.{list_any}
use Rattle.conflict_order.specs.declared.policy.Policy.{Policy}
use Rattle.conflict_order.specs.declared.version.Version.{Version}
use Rattle.conflict_order.specs.declared.want.Want.{Want}
use Rattle.conflict_order.specs.Join.{join}
use Rattle.cluster_types.specs.Distinct.{without}
use Rattle.node_rules.specs.Copies.{is_of, is_nil}
use Rattle.node_rules.specs.Tables.{changed_if, contains}
use Rattle.dup_resolve.specs.declared.txn.Txn.{Txn}
use Rattle.dup_resolve.specs.declared.txns.AnswerStep.{AnswerStep}
use Rattle.dup_resolve.specs.declared.txns.AnswerStep.TheVariants as answer
use Rattle.dup_resolve.specs.declared.txns.AckedStep.{AckedStep}
use Rattle.dup_resolve.specs.declared.txns.AckedStep.TheVariants as acked

pub record Open : Type 0 where
  -- how many transactions the view has had
  pub opened : ℕ
  -- those that are open, in rising order of their numbers
  pub running : List Txn
  -- how versions compare
  pub by : Policy
  -- how many can begin without memory
  pub spare : ℕ

-- none is open, and none was opened
pub record IsNew (by : Policy) (o : Open) : Type 0 where
  pub opened : o.opened ≡ 0
  pub running : o.running ≡ []
  pub policy : o.by ≡ by

-- all but the room is the same
pub record IsSameButRoom (old new : Open) : Type 0 where
  pub opened : new.opened ≡ old.opened
  pub running : new.running ≡ old.running
  pub policy : new.by ≡ old.by

-- other transactions are open, and all but the room is the same
pub record HasOpen (ts : List Txn) (old new : Open) : Type 0 where
  pub opened : new.opened ≡ old.opened
  pub running : new.running ≡ ts
  pub policy : new.by ≡ old.by
  pub spare : new.spare ≡ old.spare

-- a request that is accepted now, where the node holds that version and asks those
abbrev pub new_txn : ℕ → List ℕ → Want → Option Version → List ℕ → Txn
new_txn id digest want best asked =
    record { id = id; want = want; digest = digest; awaiting = asked; best = best; applied = false }

-- the open transaction of that number
abbrev pub txn_at : List Txn → ℕ → Option Txn
txn_at ts id = find (λ t. t.id == id) ts

-- a transaction's digest, where there is one
abbrev pub txn_digest : Option Txn → Option (List ℕ)
txn_digest t = option_map (λ (u : Txn). u.digest) t

-- the digest of the open transaction of that number
abbrev pub txn_digest_at : List Txn → ℕ → Option (List ℕ)
txn_digest_at ts id = txn_digest (txn_at ts id)

-- the number of the transaction that is open on the digest
abbrev pub number_on : List Txn → List ℕ → Option ℕ
number_on ts digest = option_map (λ t. t.id) (find (λ t. bytes_eq digest t.digest) ts)

-- whether a transaction is open on the partition
abbrev pub has_txn_on : List Txn → ℕ → Bool
has_txn_on ts p = list_any (λ t. is_of p t.digest) ts

-- one is closed
abbrev pub without_txn : List Txn → ℕ → List Txn
without_txn ts id = filter (λ t. not (t.id == id)) ts

-- a change of one
abbrev pub change_txn : List Txn → ℕ → (Txn → Txn) → List Txn
change_txn ts id change = map (λ t. changed_if change t (t.id == id)) ts

-- whether an answer of that node is awaited
abbrev pub txn_awaits_answer : Txn → ℕ → Bool
txn_awaits_answer t from = not t.applied && contains t.awaiting from

-- whether an acknowledgement of that node is awaited
abbrev pub txn_awaits_ack : Txn → ℕ → Bool
txn_awaits_ack t from = t.applied && contains t.awaiting from

-- whether the node is the only one that is awaited
abbrev pub txn_awaits_only : Txn → ℕ → Bool
txn_awaits_only t from = is_nil (without t.awaiting from)

-- an answer came from a node that is awaited
abbrev pub txn_answered : Policy → ℕ → Option Version → Txn → Txn
txn_answered by from v t = record t { best = join by t.best v; awaiting = without t.awaiting from }

-- an answer came: it counts where it is awaited
abbrev pub answered_if : Policy → ℕ → Option Version → Txn → Txn
answered_if by from v t = changed_if (txn_answered by from v) t (txn_awaits_answer t from)

-- an acknowledgement came from a node that is awaited
abbrev pub txn_acknowledged : ℕ → Txn → Txn
txn_acknowledged from t = record t { awaiting = without t.awaiting from }

-- an acknowledgement came: it counts where it is awaited
abbrev pub acknowledged_if : ℕ → Txn → Txn
acknowledged_if from t = changed_if (txn_acknowledged from) t (txn_awaits_ack t from)

-- the write is applied, and these are to acknowledge it
abbrev pub txn_with_write : List ℕ → Txn → Txn
txn_with_write to t = record t { applied = true; awaiting = to }

-- what is said of an answer to the transaction
abbrev pub answer_step : Option Txn → ℕ → AnswerStep
answer_step None from = answer.Spent
answer_step (Some t) from =
    if txn_awaits_answer t from
    then (if txn_awaits_only t from then answer.Resolved else answer.Waiting)
    else answer.Spent

-- what is said of an acknowledgement for the transaction
abbrev pub acked_step : Option Txn → ℕ → AckedStep
acked_step None from = acked.Spent
acked_step (Some t) from =
    if txn_awaits_ack t from then (if txn_awaits_only t from then acked.Done else acked.Waiting)
    else acked.Spent

-- the number of each, and whether its write is applied
abbrev pub txn_ends : List Txn → List (ℕ × Bool)
txn_ends ts = map (λ t. (t.id, t.applied)) ts
