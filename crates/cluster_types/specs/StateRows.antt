-- Rows of the states of copies.
use Rattle.std.specs.Prelude.{◌≡◌, ◌≢◌, ◌==◌, ℕ, ◌<◌, List, [], ◌∷◌, if◌then◌else◌, length, All, AllPairs}
use Rattle.std.specs.List.{HoldsAt}
use Rattle.cluster_types.specs.Partitions.{partition_count}
use Rattle.cluster_types.specs.declared.copy_state.CopyState.{CopyState}
use Rattle.cluster_types.specs.declared.copy_state.CopyState.TheVariants.{Empty}

-- rising partitions, each with a state other than Empty
pub record IsStateRow (row : List (ℕ × CopyState)) : Type 0 where
  pub rising : AllPairs (λ d e. d.0 < e.0) row
  pub partitions : All (λ e. e.0 < partition_count) row
  pub none_empty : All (λ e. e.1 ≢ Empty) row

-- the state of a partition's copy: Empty where the row has no entry of it
abbrev pub state_of : List (ℕ × CopyState) → ℕ → CopyState
state_of [] p = Empty
state_of (e ∷ row) p = if e.0 == p then e.1 else state_of row p

-- the entry at this place is the partition's
pub record IsPlaceOf (p : ℕ) (row : List (ℕ × CopyState)) (place : ℕ) : Type 0 where
  pub in_row : place < length row
  pub entry : HoldsAt (λ e. e.0 ≡ p) row place
