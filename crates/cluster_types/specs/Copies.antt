-- The copies of partitions: what is a partition's of all that is held by digest, and the state of a
-- copy.
use Rattle.std.specs.Prelude.{ℕ, ◌==◌, Bool, not, List, [], ◌∷◌, Option, Some, None}
use Rattle.std.specs.Coded.{Coded, coded_ℕ, coded×}
use Rattle.std.specs.Ordering.{nat_cmp}
use Rattle.std.specs.Cmp.Lexicographic.{slice_cmp}
use Rattle.std.specs.FinMap as map
use Rattle.cluster_types.specs.declared.cluster_key.ClusterKey.{ClusterKey}
use Rattle.cluster_types.specs.contracts.cluster_key.ClusterKey as key
use Rattle.cluster_types.specs.declared.copy_state.CopyState.{CopyState}
use Rattle.cluster_types.specs.declared.copy_state.CopyState.TheVariants.{Empty, Part, Whole}
use Rattle.cluster_types.specs.Partitions.{partition_of}

-- whether the digest is the partition's
abbrev pub is_of : ℕ → List ℕ → Bool
is_of p digest = partition_of digest == p

-- the digests that are held of a partition, in their order
abbrev pub digests_of : {A : Type 0} → map.FinMap (slice_cmp nat_cmp) A → ℕ → List (List ℕ)
digests_of held p = map.keys (map.retain_keys held (is_of p))

-- what is held without that of a partition
abbrev pub without_copy : {A : Type 0} → map.FinMap (slice_cmp nat_cmp) A → ℕ
    → map.FinMap (slice_cmp nat_cmp) A
without_copy held p = map.retain_keys held (λ d. not (is_of p d))

-- the key under which a copy last was whole, and how many writes of the list master of that key's
-- view it has had since that view began
abbrev pub Stamp : Type 0
Stamp = ClusterKey × ℕ

-- the stamps of those partitions whose copies have one
abbrev pub Stamps : Type 0
Stamps = map.FinMap nat_cmp Stamp

-- the code of stamps
abbrev pub stamps_code : Coded Stamps
stamps_code = map.code coded_ℕ (coded× key.the_row.coded coded_ℕ)

-- the state of a copy of these digests with that stamp. While it has no digest, the stamp doesn't
-- show
abbrev pub state_with : List (List ℕ) → Option Stamp → CopyState
state_with [] stamp = Empty
state_with (d ∷ ds) None = Part
state_with (d ∷ ds) (Some stamp) = Whole stamp.0 stamp.1

-- the state of a partition's copy: Empty where it has no record, otherwise Whole with the stamp
-- where there is one, and otherwise Part
abbrev pub state_of_copy : {A : Type 0} → map.FinMap (slice_cmp nat_cmp) A → Stamps → ℕ → CopyState
state_of_copy held stamps p = state_with (digests_of held p) (map.get stamps p)
