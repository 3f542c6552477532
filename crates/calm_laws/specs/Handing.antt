-- What rounds make of the records that a node hands on, and which messages can be read.
use Rattle.std.specs.Prelude.{◌≡◌, ◌≤◌, ℕ, Bool, true, false, List, [], ◌∷◌, length, map, Option, Some, None, is_some}
use Rattle.std.specs.FinMap as finite
use Rattle.cluster_types.specs.declared.cluster_key.ClusterKey.{ClusterKey}
use Rattle.wire_messages.specs.declared.message.Batch.{Batch}
use Rattle.wire_messages.specs.declared.message.Message.{Message}
use Rattle.wire_messages.specs.declared.message.Message.TheVariants as message
use Rattle.node_rules.specs.Batches.{Target, Targets, acking, next_batch, without_batch}
use Rattle.node_rules.specs.Copies.{Content}
use Rattle.node_rules.specs.Facts.{Facts}
use Rattle.node_rules.specs.Keys.{same_key}
use Rattle.journal_readings.specs.Lines.{has_node}
use Rattle.cluster_rules.specs.World.{World}
use Rattle.run_laws.specs.Tied.{Among}
use Rattle.calm_laws.specs.Acts.{Input, Ticks, acted, as_read, effects}
use Rattle.calm_laws.specs.Flows.{Once, Rounded, inbox}

-- what is sent at each of the acts is read as it was sent
abbrev pub Legibly : ℕ → ℕ → Facts → List Input → Type 0
Legibly n c f [] = Unit {0}
Legibly n c f (i ∷ is) =
    (as_read (effects n c f i).sends ≡ (effects n c f i).sends) × Legibly n c (acted n c f i) is

-- what a group sends in a round is read as it was sent
pub record Legible (n : ℕ) (gs : List ℕ) (w v : World) (r : Rounded n w v) : Type 0 where
  pub ticks : (m : ℕ) → has_node gs m ≡ true
      → as_read (effects n (w.clocks m) (w.facts m) Ticks).sends
      ≡ (effects n (w.clocks m) (w.facts m) Ticks).sends
  pub first : (m : ℕ) → has_node gs m ≡ true
      → Legibly n (r.ticks_end.clocks m) (r.ticks_end.facts m) (inbox r.ticks_end m)
  pub second : (m : ℕ) → has_node gs m ≡ true
      → Legibly n (r.first_end.clocks m) (r.first_end.facts m) (inbox r.first_end m)
  pub third : (m : ℕ) → has_node gs m ≡ true
      → Legibly n (r.second_end.clocks m) (r.second_end.facts m) (inbox r.second_end m)
  pub fourth : (m : ℕ) → has_node gs m ≡ true
      → Legibly n (r.third_end.clocks m) (r.third_end.facts m) (inbox r.third_end m)

-- the acknowledgements of batches in the view of that key
abbrev pub acked_if : Targets → ℕ → ℕ → Bool → Targets
acked_if ts from number true = acking ts from number
acked_if ts from number false = ts

abbrev pub acked_by : ClusterKey → Targets → ℕ → Message → Targets
acked_by k ts from (message.BatchAck key number) = acked_if ts from number (same_key k key)
acked_by k ts from _ = ts

-- a target after its tick: the batch is out that is to be sent
abbrev pub begun_with : Target → Option Batch → Target
begun_with t None = t
begun_with t (Some b) = record t { out = Some b; batches = b.number }

abbrev pub target_begun : ClusterKey → Content → Target → Target
target_begun k content t = begun_with t (next_batch k content t)

-- a target once its batch is acknowledged
abbrev pub settled_out : Target → Option Batch → Target
settled_out t None = t
settled_out t (Some b) = without_batch t b

abbrev pub target_acked : Target → Target
target_acked t = settled_out t t.out

-- the targets of a group in the view: one for each other node, and what is out is of the view
pub record Handing (gs : List ℕ) (k : ClusterKey) (w : World) : Type 0 where
  pub once : (m : ℕ) → has_node gs m ≡ true
      → Once (map (λ (t : Target). t.node) (w.facts m).batches)
  pub to : (m : ℕ) → has_node gs m ≡ true → (t : Target) → Among (w.facts m).batches t
      → (has_node gs t.node ≡ true) × (t.node ≡ m → ⊥)
  pub key : (m : ℕ) → has_node gs m ≡ true → (t : Target) (b : Batch) → Among (w.facts m).batches t
      → t.out ≡ Some b → b.key ≡ k

-- nothing is out to anybody
abbrev pub NothingOut : List ℕ → World → Type 0
NothingOut gs w =
    (m : ℕ) → has_node gs m ≡ true → (t : Target) → Among (w.facts m).batches t → t.out ≡ None

-- no target has more digests pending
abbrev pub AtMostPending : ℕ → List ℕ → World → Type 0
AtMostPending p gs w =
    (m : ℕ) → has_node gs m ≡ true → (t : Target) → Among (w.facts m).batches t
    → length t.pending ≤ p

-- the node holds a record of each digest that is pending
abbrev pub PendingHeld : List ℕ → World → Type 0
PendingHeld gs w =
    (m : ℕ) → has_node gs m ≡ true → (t : Target) → Among (w.facts m).batches t → (d : List ℕ)
    → Among t.pending d → is_some (finite.get (w.facts m).store.content d) ≡ true

-- a round in which what the group sends is read as it was sent
pub record LegibleRound (n : ℕ) (gs : List ℕ) (w v : World) : Type 0 where
  pub round : Rounded n w v
  pub legible : Legible n gs w v round
