-- The list of a partition, and its replicas.
use Rattle.std.specs.Prelude.{◌≡◌, ℕ, Bool, List, [], ◌∷◌, length, map, take, count_by, slice_get, Some, All, if◌then◌else◌}
use Rattle.cluster_types.specs.declared.member.Member.{Member}
use Rattle.cluster_types.specs.Distinct.{contains}
use Rattle.partition_lists.specs.declared.ranks.Rank.{Rank}
use Rattle.partition_lists.specs.Ranks.{rank_of, is_smaller}

-- an item among items in order: after those below it
abbrev pub put_in_order : {K : Type 0} → (K → K → Bool) → K → List K → List K
put_in_order is_below x [] = x ∷ []
put_in_order is_below x (first ∷ others) =
    if is_below first x then first ∷ put_in_order is_below x others else (x ∷ first ∷ others)

-- the items in rising order
abbrev pub in_order : {K : Type 0} → (K → K → Bool) → List K → List K
in_order is_below [] = []
in_order is_below (x ∷ items) = put_in_order is_below x (in_order is_below items)

-- the ranks of the members, in their order
abbrev pub ranks_of : List Member → ℕ → List Rank
ranks_of members p = map (rank_of members p) members

-- the list of a partition: the ids of all members by their ranks. `IsListOf` says it by position
unfoldable pub list : List Member → ℕ → List ℕ
list members p = map (λ r. r.id) (in_order is_smaller (ranks_of members p))

-- the number of members with a smaller rank
unfoldable pub position_of : List Member → ℕ → Member → ℕ
position_of members p m =
    count_by (λ other. is_smaller (rank_of members p other) (rank_of members p m)) members

-- the list of all members in which each stands at its position
pub record IsListOf (members : List Member) (p : ℕ) (ids : List ℕ) : Type 0 where
  pub size : length ids ≡ length members
  pub placed : All (λ m. slice_get ids (position_of members p m) ≡ Some m.id) members

-- the first nodes of a list, as many as the factor says or all
abbrev pub replicas : List ℕ → ℕ → List ℕ
replicas ids factor = take factor ids

-- whether the node is a replica of the partition
abbrev pub is_replica_of : ℕ → List Member → ℕ → ℕ → Bool
is_replica_of n members p factor = contains (replicas (list members p) factor) n
