-- The records that a node hands on to the replicas, in batches.
use Rattle.std.specs.Prelude.{ℕ, ◌+◌, ◌==◌, ◌&&◌, Bool, false, not, if◌then◌else◌, List, [], ◌∷◌, Option, Some, None, find, filter, filter_map, map, option_map, option_and_then, take, bytes_eq}
use Rattle.std.specs.List.{list_any}
use Rattle.std.specs.FinMap as finite
use Rattle.conflict_order.specs.Contents.{Record}
pub use Rattle.conflict_order.specs.Contents.{is_among}
use Rattle.cluster_types.specs.declared.cluster_key.ClusterKey.{ClusterKey}
use Rattle.wire_messages.specs.declared.message.Batch.{Batch}
use Rattle.node_rules.specs.Copies.{Content, digests, is_of}
use Rattle.node_rules.specs.Tables.{changed_if, bits_from}

-- what is handed on to one member
pub record Target : Type 0 where
  pub node : ℕ
  -- the digests that it hasn't acknowledged, in rising order
  pub pending : List (List ℕ)
  -- the batch that was sent last, until it is acknowledged
  pub out : Option Batch
  -- how many batches were sent to it in the view, a repeated one counted once
  pub batches : ℕ

-- a target for each other member, in member order; none before the exchange is finished
abbrev pub Targets : Type 0
Targets = List Target

-- the most records of a batch
abbrev pub batch_limit : ℕ
batch_limit = 64

-- a target that these digests are pending to
abbrev pub new_target : ℕ → List (List ℕ) → Target
new_target node pending = record { node = node; pending = pending; out = None; batches = 0 }

-- the member's target as the exchange ends: every digest that is held and is for it is pending
abbrev pub target_of : (ℕ → List ℕ → Bool) → Content → ℕ → Target
target_of is_for content n = new_target n (filter (is_for n) (digests content))

-- a target for each of these members
abbrev pub targets_of : (ℕ → List ℕ → Bool) → Content → List ℕ → Targets
targets_of is_for content ns = map (target_of is_for content) ns

-- the member's target
abbrev pub target : Targets → ℕ → Option Target
target targets n = find (λ t. t.node == n) targets

-- the batch that is out to the member
abbrev pub out_of : Option Target → Option Batch
out_of None = None
out_of (Some t) = t.out

-- the batch that is out to that member
abbrev pub out_to : Targets → ℕ → Option Batch
out_to targets n = out_of (target targets n)

-- whether the batch is there and has that number
abbrev pub has_number : Option Batch → ℕ → Bool
has_number None number = false
has_number (Some b) number = b.number == number

-- whether a digest of the partition is pending to some member
abbrev pub is_pending : Targets → ℕ → Bool
is_pending targets p = list_any (λ t. list_any (is_of p) t.pending) targets

-- whether the digest is pending to that member
abbrev pub is_pending_to : Targets → ℕ → List ℕ → Bool
is_pending_to targets n digest =
    list_any (λ t. (t.node == n) && list_any (λ d. bytes_eq d digest) t.pending) targets

-- at which of so many partitions, from one on, a node with these targets is done, where it has finished the exchange
-- or hasn't
abbrev pub done_row : Bool → Targets → ℕ → ℕ → List Bool
done_row exchanged targets n p = bits_from (λ q. exchanged && not (is_pending targets q)) n p

-- the records of these digests, as they are held
abbrev pub records_of : Content → List (List ℕ) → List Record
records_of content ds = filter_map (λ d. option_map (λ v. (d, v)) (finite.get content d)) ds

-- a new batch: the least digests that are pending, as many as a batch has or all
abbrev pub new_batch : ClusterKey → Content → Target → Batch
new_batch key content t = record {
  key = key;
  number = t.batches + 1;
  records = records_of content (take batch_limit t.pending);
}

-- the new batch where something is pending
abbrev pub fresh_batch : ClusterKey → Content → Target → List (List ℕ) → Option Batch
fresh_batch key content t [] = None
fresh_batch key content t (d ∷ ds) = Some (new_batch key content t)

-- the batch that is to be sent where this one is out: it again, and where none is, a new one
abbrev pub batch_after : ClusterKey → Content → Target → Option Batch → Option Batch
batch_after key content t (Some b) = Some b
batch_after key content t None = fresh_batch key content t t.pending

-- the batch that is to be sent to the target, if any
abbrev pub next_batch : ClusterKey → Content → Target → Option Batch
next_batch key content t = batch_after key content t t.out

-- the batch that is to be sent to the member, if any
abbrev pub next_batch_to : ClusterKey → Content → Targets → ℕ → Option Batch
next_batch_to key content targets n = option_and_then (next_batch key content) (target targets n)

-- the batch was acknowledged: its digests are no longer pending, and none is out
abbrev pub without_batch : Target → Batch → Target
without_batch t b = record t {
  pending = filter (λ d. not (is_among b.records d)) t.pending;
  out = None;
}

-- an acknowledgement of that number, where that batch is out
abbrev pub acked_out : Target → ℕ → Option Batch → Target
acked_out t number None = t
acked_out t number (Some b) = if b.number == number then without_batch t b else t

-- a change of the member's target
abbrev pub change_target : Targets → ℕ → (Target → Target) → Targets
change_target targets n change = map (λ t. changed_if change t (t.node == n)) targets

-- a BatchAck came: it counts where it has the number of the batch that is out to its sender
abbrev pub acking : Targets → ℕ → ℕ → Targets
acking targets from number = change_target targets from (λ t. acked_out t number t.out)

-- a batch was sent to the member
abbrev pub sending : Targets → ℕ → Batch → Targets
sending targets to b = change_target targets to (λ t. record t { out = Some b; batches = b.number })
