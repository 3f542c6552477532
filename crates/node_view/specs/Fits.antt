-- What a planned step of a view says of the facts that it was planned from. It is taken by that, beside the room.
use Rattle.std.specs.Prelude.{◌≡◌, ◌≢◌, ℕ, ◌+◌, ◌<◌, Bool, true, List, [], Option, None, All, AllPairs, Contains, IsSome}
use Rattle.std.specs.FinMap as finite
use Rattle.std.specs.Option.{ForSome}
use Rattle.conflict_order.specs.Next.{next}
use Rattle.conflict_order.specs.Order.{is_newer}
use Rattle.cluster_types.specs.declared.cluster_key.ClusterKey.{ClusterKey}
use Rattle.cluster_types.specs.Partitions.{partition_of}
use Rattle.wire_messages.specs.declared.message.Batch.{Batch}
use Rattle.record_store.specs.Store as held
use Rattle.emigrate.specs.Going.{IsNext}
use Rattle.exchange.specs.Served.{AreServed}
use Rattle.write_path.specs.Writes.{IsWrite, body_of}
use Rattle.node_rules.specs.Batches.{Targets, target}
use Rattle.node_rules.specs.Copies.{Row}
use Rattle.node_rules.specs.Exchange.{first_missing, with_row}
use Rattle.node_rules.specs.Facts.{Facts, list_at, members_of_view, view_key}
use Rattle.node_rules.specs.Here.{here}
use Rattle.node_rules.specs.Map.{lacks}
use Rattle.node_rules.specs.Merging.{newer_records}
use Rattle.node_rules.specs.Notes.{own_targets}
use Rattle.node_rules.specs.Stamps.{applies_at}
use Rattle.node_rules.specs.Standing.{other_replicas, others}
use Rattle.node_rules.specs.Transactions.{Transaction, new_transaction, transaction, transaction_on}
use Rattle.immigrate.specs.declared.merging.Merged.{Merged}
use Rattle.node_view.specs.declared.here.Settling.{Settling}
use Rattle.node_view.specs.declared.view_step.LastRow.{LastRow}
use Rattle.node_view.specs.declared.view_step.Outcome.{Outcome}
use Rattle.node_view.specs.declared.view_step.Outcome.TheVariants as outcome
use Rattle.node_view.specs.declared.view_step.Replicated.{Replicated}
use Rattle.node_view.specs.declared.view_step.ViewStep.{ViewStep}
use Rattle.node_view.specs.declared.view_step.ViewStep.TheVariants as step
use Rattle.node_view.specs.declared.view_step.Writing.{Writing}
use Rattle.node_view.specs.Counts.{greatest_count}
use Rattle.node_view.specs.Plans.{with_answer, facts_with_row}
use Rattle.node_view.specs.Settlings.{settling_of}
use Rattle.node_view.specs.Rooms.{HasRoomForOutcome, HasRoomIn}
use Rattle.node_view.specs.Views.{IsNodeInView, Viewed, digest_in, facts_in, viewed_key}

-- ---- ticks

-- what is done about partitions is what is due of each, in rising order
pub record AreSettlings (f : Facts) (ss : List Settling) : Type 0 where
  pub exchanged : ss ≢ [] → f.exchange.exchanged ≡ true
  pub each : All (λ s. s ≡ settling_of s.partition (here f (list_at f s.partition) s.partition)) ss
  pub rise : AllPairs (λ a b. a.partition < b.partition) ss

-- each of these batches may go to its target next, once the exchange is finished, and no target has two
pub record AreNext (exchanged : Bool) (key : ClusterKey) (targets : Targets)
    (batches : List (ℕ × Batch)) : Type 0 where
  pub finished : batches ≢ [] → exchanged ≡ true
  pub apart : AllPairs (λ a b. a.0 ≢ b.0) batches
  pub next : All
      (λ b. IsSome (target targets b.0) × ForSome (target targets b.0) (λ t. IsNext key t b.1))
      batches

-- ---- rows

-- the row of another member isn't there
pub record IsLacking (f : Facts) (from : ℕ) : Type 0 where
  pub member : Contains (others f) from
  pub lacking : lacks f.exchange.rows from ≡ true

-- the row isn't the last one
pub record FitsRow (f : Facts) (from : ℕ) (row : Row) : Type 0 where
  pub absent : IsLacking f from
  pub more : IsSome (first_missing (with_row f.exchange.rows from row) (members_of_view f))

-- the row is the last one, and with it the partitions are served so and these records are handed on
pub record FitsLastRow (f : Facts) (l : LastRow) : Type 0 where
  pub absent : IsLacking f l.from
  pub none_missing : first_missing (with_row f.exchange.rows l.from l.row) (members_of_view f)
      ≡ None
  pub served : AreServed (members_of_view f) (with_row f.exchange.rows l.from l.row) l.served
  pub key : l.emigration.key ≡ view_key f
  pub targets : l.emigration.targets ≡ own_targets (facts_with_row f l.from l.row)

-- ---- records of other nodes

-- each record is newer than what is held as it is come to
pub record FitsMerged (f : Facts) (m : Merged) : Type 0 where
  pub newer : newer_records f.store.by f.store.content m.newer ≡ m.newer

-- the version is newer than what is held, and a write that counts has a number
pub record FitsReplicated (f : Facts) (r : Replicated) : Type 0 where
  pub newer : ForSome r.newer
      (λ v. is_newer f.store.by v (finite.get f.store.content r.digest) ≡ true)
  pub number : ForSome r.counted (λ c. 0 < c.nth)

-- ---- transactions

-- the transaction's write is this one: it isn't applied, awaits nobody, makes the next version of the best one, and goes
-- to the other replicas
pub record FitsWriting (f : Facts) (t : Transaction) (w : Writing) : Type 0 where
  pub write : IsWrite t.want
  pub unapplied : t.applied ≡ None
  pub resolved : t.awaiting ≡ []
  pub version : w.version ≡ next t.best w.clock (body_of t.want)
  pub kept : w.kept ≡ w.version
  pub to : w.to ≡ other_replicas f (list_at f (partition_of t.digest))
  pub count : applies_at f.writes (partition_of t.digest) < greatest_count

-- the transaction is resolved so
abbrev pub FitsOutcome : Facts → Transaction → Outcome → Type 0
FitsOutcome f t outcome.Read = Unit {0}
FitsOutcome f t (outcome.Write w) = FitsWriting f t w

-- the transaction of that number is open, and is resolved so
pub record ResolvesTransaction (f : Facts) (number : ℕ) (o : Outcome) : Type 0 where
  pub open_one : IsSome (transaction f.transactions number)
  pub outcome_of : ForSome (transaction f.transactions number) (λ t. FitsOutcome f t o)

-- none is open on the digest, there is a number for it, and where it is resolved at once it is so
pub record FitsOpened (f : Facts) (digest : List ℕ) (t : Transaction) (o : Option Outcome)
    : Type 0 where
  pub free : transaction_on f.transactions digest ≡ None
  pub count : f.transactions.opened < greatest_count
  pub outcome_of : ForSome o (FitsOutcome f t)

-- ---- all steps

-- the step was planned from these facts
abbrev pub FitsStep : Facts → ViewStep → Type 0
FitsStep f (step.Row from row) = FitsRow f from row
FitsStep f (step.LastRow l) = FitsLastRow f l
FitsStep f (step.Merged m) = FitsMerged f m
FitsStep f (step.Progressed p) = Contains (others f) p.from
FitsStep f (step.Replicated r) = FitsReplicated f r
FitsStep f (step.Done number) = IsSome (transaction f.transactions number)
FitsStep f (step.Resolved from number v o) = ResolvesTransaction
    (with_answer f from number v) number o
FitsStep f (step.Opened digest w best asked o) =
    FitsOpened f digest (new_transaction (f.transactions.opened + 1) digest w best asked) o
FitsStep f _ = Unit {0}

-- a view with that store is ready for the step: it was planned from what the node knows, and there is room
pub record IsReady (v : Viewed) (s : held.StoreWithRoom) (p : ViewStep) : Type 0 where
  pub node : IsNodeInView (facts_in v s) v s
  pub fits : FitsStep (facts_in v s) p
  pub room : HasRoomIn v s.spare p

-- it is ready to resolve its transaction so
pub record IsReadyToResolve (v : Viewed) (s : held.StoreWithRoom) (number : ℕ)
    (o : Outcome) : Type 0 where
  pub node : IsNodeInView (facts_in v s) v s
  pub fits : ResolvesTransaction (facts_in v s) number o
  pub room : HasRoomForOutcome v.room s.spare (digest_in v number) o

-- it is ready to settle so
pub record IsReadyToSettle (v : Viewed) (s : held.StoreWithRoom) (ss : List Settling) : Type 0 where
  pub node : IsNodeInView (facts_in v s) v s
  pub settlings : AreSettlings (facts_in v s) ss

-- it is ready to send these batches
abbrev pub IsReadyToSend : Viewed → List (ℕ × Batch) → Type 0
IsReadyToSend v batches = AreNext v.exchange.exchanged (viewed_key v) v.batches batches
