-- Who acts on a partition, as the states of its members' copies tell. The list of the partition is an argument, and the
-- states are a function of the member.
use Rattle.std.specs.Prelude.{ℕ, ◌&&◌, Bool, true, false, not, List, [], ◌∷◌, find, unwrap_or}
use Rattle.std.specs.List.{list_all}
use Rattle.cluster_types.specs.declared.cluster_key.ClusterKey.{ClusterKey}
use Rattle.cluster_types.specs.declared.copy_state.CopyState.{CopyState}
use Rattle.cluster_types.specs.declared.copy_state.CopyState.TheVariants.{Empty, Part, Whole}
use Rattle.cluster_types.specs.ClusterKeys as keys

-- whether the copy has no record
abbrev pub is_empty : CopyState → Bool
is_empty Empty = true
is_empty Part = false
is_empty (Whole key writes) = false

-- whether the copy was whole under some key
abbrev pub is_whole : CopyState → Bool
is_whole Empty = false
is_whole Part = false
is_whole (Whole key writes) = true

-- the key under which the copy was whole; none is below every key
abbrev pub whole_key : CopyState → ClusterKey
whole_key Empty = keys.none
whole_key Part = keys.none
whole_key (Whole key writes) = key

-- the list master: the first of the list, and 0 where it is empty
abbrev pub list_master : List ℕ → ℕ
list_master [] = 0
list_master (n ∷ l) = n

-- whether the member's copy is whole, and none in the list is whole under a greater key
abbrev pub is_wholest_by : List ℕ → (ℕ → CopyState) → ℕ → Bool
is_wholest_by l state n =
    is_whole (state n)
    && list_all (λ m. not (keys.key_lt (whole_key (state n)) (whole_key (state m)))) l

-- the acting master: the first of the list whose copy is whole under the greatest key, and the list
-- master where no copy is whole. Counts of writes play no part
abbrev pub acting_by : List ℕ → (ℕ → CopyState) → ℕ
acting_by l state = unwrap_or (find (is_wholest_by l state) l) (list_master l)

-- whether no member's copy has a record
abbrev pub all_empty_by : List ℕ → (ℕ → CopyState) → Bool
all_empty_by l state = list_all (λ m. is_empty (state m)) l
