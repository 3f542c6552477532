-- What lasts for a view, as the rules know it.
use Rattle.std.specs.Prelude.{◌≡◌, ◌≢◌, ℕ, ◌<◌, Bool, true, false, not, List, [], IsSome, Option, Some, None, ◌-◌, ◌&&◌, if◌then◌else◌, map, min, option_map, unwrap_or}
use Rattle.std.specs.FinMap as finite
use Rattle.std.specs.List.{count_by, range_with_len}
use Rattle.conflict_order.specs.declared.policy.Policy.{Policy}
use Rattle.cluster_types.specs.Partitions.{partition_count, partition_of}
use Rattle.cluster_types.specs.Rows.{bit}
use Rattle.cluster_types.specs.declared.cluster_key.ClusterKey.{ClusterKey}
use Rattle.cluster_types.specs.declared.member.Member.{Member}
use Rattle.cluster_types.specs.Members.{plain_role}
use Rattle.node_rules.specs.Agreement.{others_among}
use Rattle.node_rules.specs.Batches as batches
use Rattle.node_rules.specs.Batches.{Targets, done_row}
use Rattle.node_rules.specs.Bits.{Bits, clear_row, no_bits, or_rows, settling}
use Rattle.node_rules.specs.Exchange as exchange
use Rattle.node_rules.specs.Exchange.{Exchange, is_member, outside}
use Rattle.node_rules.specs.Copies.{Content, Row, Store, row_from, without_copy}
use Rattle.node_rules.specs.Notes as notes
use Rattle.record_store.specs.Store as held
use Rattle.node_rules.specs.Facts.{Facts, fresh, list_at}
use Rattle.node_rules.specs.Here.{here, IsAsleep, IsOver}
use Rattle.node_rules.specs.Standing.{is_all_empty, is_own_replica, knows_settled}
use Rattle.node_rules.specs.Stamps.{Writes, no_writes, stamped_with}
use Rattle.node_rules.specs.Transactions as rules
use Rattle.emigrate.specs.Going.{AreHeld}
use Rattle.node_view.specs.declared.view.Moving.{Moving}
use Rattle.node_view.specs.declared.view.Stage.{Stage}
use Rattle.node_view.specs.declared.view.Stage.TheVariants as stage
use Rattle.node_view.specs.declared.view.View.TheInside.{Inside}
use Rattle.exchange.specs.declared.exchanging.ExchangeStep.{ExchangeStep}
use Rattle.exchange.specs.declared.exchanging.ExchangeStep.TheVariants.{Waiting, Complete}
use Rattle.exchange.specs.Met.{Met, met_sends_to}
use Rattle.node_view.specs.Transactions.{AreNoted, transactions_of}
use Rattle.node_view.specs.Writes.{writes_of}

-- of how many things more there is room in a view
pub record ViewRoom : Type 0 where
  pub transactions : ℕ
  -- partitions on which the node applies its first write
  pub applies : ℕ
  -- partitions on which the list master's first write comes
  pub numbers : ℕ
  -- of each partition with numbers, how many more
  pub further : List (ℕ × ℕ)

-- what is kept of the partitions so that a tick needn't look at each
pub record Watch : Type 0 where
  -- how many of them the node doesn't know settled
  pub unsettled : ℕ
  -- those that a tick looks at; none before the exchange is finished
  pub live : List Bool

-- what lasts for a view
pub record Viewed : Type 0 where
  pub me : ℕ
  pub factor : ℕ
  -- how versions compare
  pub by : Policy
  pub exchange : Exchange
  pub writes : Writes
  pub transactions : rules.Transactions
  pub batches : Targets
  pub bits : Bits
  pub watch : Watch
  pub room : ViewRoom

-- all but the room and what is kept of the partitions is the same
pub record IsLike (old new : Viewed) : Type 0 where
  pub me : new.me ≡ old.me
  pub factor : new.factor ≡ old.factor
  pub by : new.by ≡ old.by
  pub exchange : new.exchange ≡ old.exchange
  pub writes : new.writes ≡ old.writes
  pub transactions : new.transactions ≡ old.transactions
  pub batches : new.batches ≡ old.batches
  pub bits : new.bits ≡ old.bits

-- all but the room is the same
pub record IsSame (old new : Viewed) : Type 0 where
  pub alike : IsLike old new
  pub watch : new.watch ≡ old.watch

-- the key of the view
abbrev pub viewed_key : Viewed → ClusterKey
viewed_key v = exchange.exchange_key v.exchange.view

-- the exchange at that stage
abbrev pub exchange_at : Stage → Exchange
exchange_at (stage.Exchanging x) = x.exchange
exchange_at (stage.Exchanged m) = m.map.exchange
exchange_at stage.Taken = outside

-- what is handed on at that stage
abbrev pub targets_at : Stage → Targets
targets_at (stage.Exchanging x) = []
targets_at (stage.Exchanged m) = m.emigration.targets
targets_at stage.Taken = []

-- the partitions that a tick looks at, at that stage
abbrev pub live_at : Stage → List Bool
live_at (stage.Exchanging x) = []
live_at (stage.Exchanged m) = m.live
live_at stage.Taken = []

-- what lasts for a view with these fields
abbrev pub view_of : Inside → Viewed
view_of v = record {
  me = v.me;
  factor = v.factor;
  by = v.txns.by;
  exchange = exchange_at v.stage;
  writes = writes_of v.writes;
  transactions = transactions_of v.txns v.notes;
  batches = targets_at v.stage;
  bits = record v.progress.bits { learnt = v.learnt.value };
  watch = record { unsettled = v.unsettled; live = live_at v.stage };
  room = record {
    transactions = min v.txns.spare v.notes.spare;
    applies = v.writes.applies;
    numbers = v.writes.numbers;
    further = v.writes.further;
  };
}

-- facts with what lasts for that view, and without one with none of it
abbrev pub with_view : Facts → Option Viewed → Facts
with_view f None = record f {
  exchange = outside;
  writes = no_writes;
  transactions = rules.no_transactions;
  batches = [];
  bits = no_bits;
}
with_view f (Some v) = record f {
  exchange = v.exchange;
  writes = v.writes;
  transactions = v.transactions;
  batches = v.batches;
  bits = v.bits;
}

-- what is held, without the room
abbrev pub store_of : held.StoreWithRoom → Store
store_of s = record { content = s.versions; stamps = s.stamps; by = s.by }

-- the facts of a node in that view, of which nothing else is known
abbrev pub facts_seen : Viewed → Facts
facts_seen v = with_view (fresh v.me plain_role [] v.factor v.by) (Some v)

-- the same of a node with that store
abbrev pub facts_in : Viewed → held.StoreWithRoom → Facts
facts_in v s = record (facts_seen v) { store = store_of s }

-- the facts are of a node in that view
pub record IsInView (f : Facts) (v : Viewed) : Type 0 where
  pub me : f.me ≡ v.me
  pub factor : f.factor ≡ v.factor
  pub view : with_view f (Some v) ≡ f

-- the facts are of a node with that store
pub record IsWithStore (f : Facts) (s : held.StoreWithRoom) : Type 0 where
  pub content : f.store.content ≡ s.versions
  pub stamps : f.store.stamps ≡ s.stamps
  pub by : f.store.by ≡ s.by

-- how many of the partitions the node doesn't know settled
abbrev pub unsettled_count : Facts → ℕ
unsettled_count f = count_by (λ p. not (knows_settled f p)) (range_with_len 0 partition_count)

-- where a partition isn't live, no line comes of it: it sleeps, or it is over
pub data IsQuiet (f : Facts) (p : ℕ) : Type 0 where
  asleep : IsAsleep (here f (list_at f p) p) → IsQuiet f p
  over : IsOver (here f (list_at f p) p) → IsQuiet f p

-- once the exchange is finished, the partitions that aren't live are quiet
pub record AreLive (f : Facts) (live : List Bool) : Type 0 where
  pub quiet : (p : ℕ) → p < partition_count → f.exchange.exchanged ≡ true → bit live p ≡ false
      → IsQuiet f p

-- the partition is looked at where it isn't quiet, and the others are as before
pub record IsSeenTo (p : ℕ) (f : Facts) (old new : List Bool) : Type 0 where
  pub quiet : f.exchange.exchanged ≡ true → bit new p ≡ false → IsQuiet f p
  pub others : (q : ℕ) → q ≢ p → bit new q ≡ bit old q

-- what is kept of the partitions is what the facts say
pub record KeepsWatch (f : Facts) (w : Watch) : Type 0 where
  pub unsettled : w.unsettled ≡ unsettled_count f
  pub live : AreLive f w.live

-- the facts are of a node in that view, which compares versions as the view does and holds what is pending, and what is
-- kept of the partitions is what the facts say
pub record IsViewOf (f : Facts) (v : Viewed) : Type 0 where
  pub viewed : IsInView f v
  pub policy : v.by ≡ f.store.by
  pub pending : AreHeld f.store.content v.batches
  pub watch : KeepsWatch f v.watch

-- the facts are of a node in that view, with that store
pub record IsNodeInView (f : Facts) (v : Viewed) (s : held.StoreWithRoom) : Type 0 where
  pub view : IsViewOf f v
  pub stored : IsWithStore f s

-- the view where ticks look at these partitions
abbrev pub with_live : Viewed → List Bool → Viewed
with_live v live = record v { watch = record v.watch { live = live } }

-- the view with so many partitions that the node doesn't know settled
abbrev pub with_unsettled : Viewed → ℕ → Viewed
with_unsettled v count = record v { watch = record v.watch { unsettled = count } }

-- the facts with these settled bits besides
abbrev pub with_settled_bits : Facts → List Bool → Facts
with_settled_bits f settled = record f {
  bits = record f.bits { settled = or_rows f.bits.settled settled };
}

-- the view with these bits
abbrev pub with_bits : Viewed → Bits → Viewed
with_bits v bits = record v { bits = bits }

-- the view with this kept of the partitions
abbrev pub with_watch : Viewed → Watch → Viewed
with_watch v watch = record v { watch = watch }

-- whether the node knows that no member's copy of the partition had a record
abbrev pub is_known_empty : Viewed → ℕ → Bool
is_known_empty v p = v.exchange.exchanged && is_all_empty (facts_seen v) p

-- the view where the partition, which had no settled bit, counts as settled, as it did before where it is known empty
abbrev pub without_unsettled : Viewed → ℕ → Viewed
without_unsettled v p = if is_known_empty v p then v else with_unsettled v (v.watch.unsettled - 1)

-- the facts with these settled bits
abbrev pub with_settled_row : Facts → List Bool → Facts
with_settled_row f settled = record f { bits = record f.bits { settled = settled } }

-- the view where one partition more is settled by the node
abbrev pub one_more_settled : Viewed → ℕ → Viewed
one_more_settled v p = record v {
  bits = settling v.bits p;
  watch = record v.watch { unsettled = v.watch.unsettled - 1 };
}

-- the count of the copy
abbrev pub count_seen : Viewed → ℕ → ℕ
count_seen v p = notes.count_in (facts_seen v) (list_at (facts_seen v) p) p

-- whether the copy is stamped once the exchange is finished: no member's copy had a record, and the node is a replica
abbrev pub is_stamped : Viewed → ℕ → Bool
is_stamped v p =
    (v.exchange.exchanged && is_all_empty (facts_seen v) p)
    && is_own_replica (facts_seen v) (list_at (facts_seen v) p)

-- the store where the copy is stamped, if it is to be
abbrev pub with_copy_stamped : held.StoreWithRoom → Viewed → ℕ → held.StoreWithRoom
with_copy_stamped s v p = record s {
  stamps = stamped_with (viewed_key v) (count_seen v p) p s.stamps (is_stamped v p);
}

-- the store where the copy is whole under that key, with that count
abbrev pub learnt_copy : held.StoreWithRoom → ClusterKey → ℕ → ℕ → held.StoreWithRoom
learnt_copy s key p count = record s { stamps = finite.insert s.stamps p (key, count) }

-- the store without the partition's copy and its stamp
abbrev pub without_copy_of : held.StoreWithRoom → ℕ → held.StoreWithRoom
without_copy_of s p = record s {
  versions = without_copy s.versions p;
  stamps = finite.remove s.stamps p;
}

-- the exchange is that of the node with that factor
pub record IsMet (x : Met) (n count : ℕ) : Type 0 where
  pub me : x.me ≡ n
  pub factor : x.factor ≡ count

-- the exchange is that of the node, and waits for rows
pub record IsWaitingOf (x : Met) (me factor : ℕ) : Type 0 where
  pub met : IsMet x me factor
  pub unfinished : x.exchange.exchanged ≡ false
  pub missing : IsSome
      (exchange.first_missing x.exchange.rows (exchange.members_of x.exchange.view))

-- each other member has its target, in member order
abbrev pub AreTargeted : Targets → ℕ → List Member → Type 0
AreTargeted targets me members = map (λ t. t.node) targets ≡ others_among me members

-- what there is once the exchange is finished is of that node, all rows are there, and batches carry the key
pub record IsMovingOf (m : Moving) (me factor : ℕ) (key : ClusterKey) : Type 0 where
  pub met : IsMet m.map me factor
  pub finished : m.map.exchange.exchanged ≡ true
  pub whole : exchange.first_missing m.map.exchange.rows (exchange.members_of m.map.exchange.view)
      ≡ None
  pub key_of : m.emigration.key ≡ key
  pub targeted : AreTargeted m.emigration.targets me (exchange.members_of m.map.exchange.view)

-- the stage is that of the node with that factor, in the view of that key
abbrev pub IsStageOf : ℕ → ℕ → ClusterKey → Stage → Type 0
IsStageOf me factor key (stage.Exchanging x) = IsWaitingOf x me factor
IsStageOf me factor key (stage.Exchanged m) = IsMovingOf m me factor key
IsStageOf me factor key stage.Taken = ⊥

-- what a view has besides, once its exchange is finished, is what is said of the view
pub record IsMoving (v : Viewed) (m : Moving) : Type 0 where
  pub own : IsMovingOf m v.me v.factor (viewed_key v)
  pub exchange : m.map.exchange ≡ v.exchange
  pub targets : m.emigration.targets ≡ v.batches
  pub live : m.live ≡ v.watch.live

-- what is handed on once the exchange is finished as the view is entered, and no partition is live yet
pub record IsHandedOnBy (x : Met) (records : Content) (members : List Member) (key : ClusterKey)
    (me : ℕ) (m : Moving) : Type 0 where
  pub map : m.map ≡ x
  pub key_of : m.emigration.key ≡ key
  pub targets : m.emigration.targets ≡ batches.targets_of
      (λ to d. met_sends_to x (partition_of d) me to) records (others_among me members)
  pub live : m.live ≡ clear_row

-- the stage is that of a view whose exchange is finished so
abbrev pub IsMovingStage : Met → Content → List Member → ClusterKey → ℕ → Stage → Type 0
IsMovingStage x records members key me (stage.Exchanging y) = ⊥
IsMovingStage x records members key me (stage.Exchanged m) = IsHandedOnBy x records members key me m
IsMovingStage x records members key me stage.Taken = ⊥

-- the stage is the first one of a view whose exchange has come so far
abbrev pub IsFirstStage : ExchangeStep → Content → List Member → ClusterKey → ℕ → Stage → Type 0
IsFirstStage (Waiting x) records members key me s = s ≡ stage.Exchanging x
IsFirstStage (Complete x) records members key me s = IsMovingStage x records members key me s

-- the node's own done row at that stage
abbrev pub own_done : List Bool → Stage → List Bool
own_done own (stage.Exchanging x) = own
own_done own (stage.Exchanged m) = done_row true m.emigration.targets partition_count 0
own_done own stage.Taken = own

-- the fields of a view agree with each other
pub record FieldsAgree (v : Inside) : Type 0 where
  pub stage_of : IsStageOf v.me v.factor v.key v.stage
  pub viewed : v.members ≡ exchange.members_of (exchange_at v.stage).view
  pub key : v.key ≡ exchange.exchange_key (exchange_at v.stage).view
  pub member : is_member v.members v.me ≡ true
  pub others : v.others ≡ others_among v.me v.members
  pub told : v.progress.me ≡ v.me
  pub heard : v.progress.others ≡ v.others
  -- the node's own done row is what is handed on
  pub done : v.progress.own
      ≡ done_row (exchange_at v.stage).exchanged (targets_at v.stage) partition_count 0
  pub noted : AreNoted v.txns v.notes

-- the node is another member of the view
pub record IsOtherMember (v : Viewed) (n : ℕ) : Type 0 where
  pub member : is_member (exchange.members_of v.exchange.view) n ≡ true
  pub other : n ≢ v.me

-- ---- entering

-- the row that a node with that store makes as it enters a view
abbrev pub store_row : held.StoreWithRoom → Row
store_row s = row_from (store_of s) partition_count 0

-- a view as it is entered, with that row. One of a single member has its exchange finished, and nobody to hand on to
abbrev pub viewed_at_entry : ℕ → ℕ → Policy → ClusterKey → List Member → Row → Viewed
viewed_at_entry me factor by key members row = record {
  me = me;
  factor = factor;
  by = by;
  exchange = record (exchange.begun me key members row) { exchanged = exchange.is_single members };
  writes = no_writes;
  transactions = rules.no_transactions;
  batches = [];
  bits = no_bits;
  watch = record { unsettled = partition_count; live = [] };
  room = record { transactions = 0; applies = 0; numbers = 0; further = [] };
}

-- a view as it is entered by a node of these facts, but for what is kept of the partitions
abbrev pub view_at_entry : Facts → ClusterKey → List Member → Viewed
view_at_entry f key members = viewed_at_entry f.me f.factor f.store.by key members (notes.own_row f)

-- the view is entered by a node of these facts, and what is kept of the partitions is what the facts say that it then has
pub record IsEntered (f : Facts) (key : ClusterKey) (members : List Member) (v : Viewed)
    : Type 0 where
  pub alike : IsLike (view_at_entry f key members) v
  pub watch : KeepsWatch (with_view f (Some v)) v.watch

-- ---- the last row

-- these are the targets once that row is there: what the store holds and hands on is pending
pub record IsHandedOn (v : Viewed) (s : held.StoreWithRoom) (from : ℕ) (row : Row)
    (targets : Targets) : Type 0 where
  pub pending : (f : Facts) → f.me ≡ v.me → f.factor ≡ v.factor → f.store.content ≡ s.versions
      → f.exchange ≡ record v.exchange { rows = exchange.with_row v.exchange.rows from row }
      → targets ≡ notes.own_targets f

-- ---- steps

-- where the facts are of a node in the old view with the old store, those after the step are of one in the new view
-- with the new store
abbrev pub BecomesNodeOf : Facts → Viewed → held.StoreWithRoom → Facts → Viewed
    → held.StoreWithRoom → Type 0
BecomesNodeOf f old before after new now = IsNodeInView f old before → IsNodeInView after new now

-- the digest of the open transaction
abbrev pub digest_in : Viewed → ℕ → List ℕ
digest_in v number =
    unwrap_or (option_map (λ t. t.digest) (rules.transaction v.transactions number)) []
