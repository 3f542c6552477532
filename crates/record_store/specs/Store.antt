-- What a caller sees of a store, and what its calls make of that.
use Rattle.std.specs.Prelude.{◌≡◌, ◌≢◌, ℕ, ◌+◌, ◌<◌, ◌≤◌, List, if◌then◌else◌, filter, slice_index, Option, Some, None}
use Rattle.std.specs.List.{count_by}
use Rattle.std.specs.Ordering.{nat_cmp, is_lt}
use Rattle.std.specs.Cmp.Lexicographic.{slice_cmp}
use Rattle.std.specs.FinMap as map
use Rattle.conflict_order.specs.declared.policy.Policy.{Policy}
use Rattle.conflict_order.specs.declared.version.Version.{Version}
use Rattle.conflict_order.specs.Contents.{Content}
use Rattle.conflict_order.specs.Order.{is_newer}
use Rattle.cluster_types.specs.Copies.{Stamps, is_of}
use Rattle.cluster_types.specs.Partitions.{partition_count}
use Rattle.record_store.specs.declared.joined.Joined.{Joined}
use Rattle.record_store.specs.declared.joined.Joined.TheVariants.{Newer, Kept}

pub record StoreWithRoom : Type 0 where
  pub versions : Content
  pub stamps : Stamps
  -- how versions of one digest compare
  pub by : Policy
  -- for how many new digests of each partition there is room already
  pub spare : List ℕ

-- no record and no stamp
pub record IsNewStore (by : Policy) (s : StoreWithRoom) : Type 0 where
  pub versions : s.versions ≡ map.empty
  pub stamps : s.stamps ≡ map.empty
  pub policy : s.by ≡ by

-- the same records and stamps
pub record HoldsTheSame (old new : StoreWithRoom) : Type 0 where
  pub versions : new.versions ≡ old.versions
  pub stamps : new.stamps ≡ old.stamps
  pub policy : new.by ≡ old.by

-- all of the digests, or those above the one
abbrev pub digests_above : Option (List ℕ) → List (List ℕ) → List (List ℕ)
digests_above None ds = ds
digests_above (Some d) ds = filter (λ e. is_lt (slice_cmp nat_cmp d e)) ds

-- whether the version is newer than the one that is held
abbrev pub answer : Policy → Version → Option Version → Joined
answer by v held = if is_newer by v held then Newer else Kept

-- for how many new digests of the partition there is room
abbrev pub room_at : List ℕ → ℕ → ℕ
room_at spare p = slice_index spare p

-- there is room for each of the digests
pub record HasRoom (ds : List (List ℕ)) (spare : List ℕ) : Type 0 where
  pub room : (p : ℕ) → p < partition_count → count_by (is_of p) ds ≤ room_at spare p

-- the room of no partition is less
pub record KeepsRoom (old new : List ℕ) : Type 0 where
  pub kept : (p : ℕ) → room_at old p ≤ room_at new p

-- at most the room for one digest of that partition is used up
pub record UsesRoom (p : ℕ) (old new : List ℕ) : Type 0 where
  pub here : room_at old p ≤ room_at new p + 1
  pub others : (q : ℕ) → q ≢ p → room_at new q ≡ room_at old q
