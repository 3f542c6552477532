-- Classes of members whose copies of a partition are equal: who sends records to whom, and who is asked. The list of the
-- partition is an argument, and the states are a function of the member.
use Rattle.std.specs.Prelude.{ℕ, ◌==◌, ◌&&◌, Bool, true, false, not, if◌then◌else◌, List, Option, Some, None, find, filter}
use Rattle.cluster_types.specs.declared.cluster_key.ClusterKey.{ClusterKey}
use Rattle.cluster_types.specs.declared.copy_state.CopyState.{CopyState}
use Rattle.cluster_types.specs.declared.copy_state.CopyState.TheVariants.{Empty, Part, Whole}
use Rattle.partition_lists.specs.Acting.{is_empty}

-- the count of a copy that belongs to no class with others
abbrev pub no_class : ℕ
no_class = 4294967295

-- whether the state is Whole under that key with that count
abbrev pub is_whole_with : ClusterKey → ℕ → CopyState → Bool
is_whole_with key writes Empty = false
is_whole_with key writes Part = false
is_whole_with key writes (Whole k w) =
    ((key.round == k.round) && (key.principal == k.principal)) && (writes == w)

-- whether the second node is in the class of the first, which has this state. An empty copy is in no
-- class; one that is Part or has no count is alone in its class; the class of another is all with its state
abbrev pub is_in_class_by : (ℕ → CopyState) → ℕ → ℕ → CopyState → Bool
is_in_class_by state a b Empty = false
is_in_class_by state a b Part = a == b
is_in_class_by state a b (Whole key writes) =
    if writes == no_class then a == b else is_whole_with key writes (state b)

-- whether the second node is in the class of the first
abbrev pub same_class_by : (ℕ → CopyState) → ℕ → ℕ → Bool
same_class_by state a b = is_in_class_by state a b (state a)

-- the first of the list that is in the node's class; none where the node's copy was empty
abbrev pub class_first_by : List ℕ → (ℕ → CopyState) → ℕ → Option ℕ
class_first_by l state n = find (same_class_by state n) l

-- whether there is a node and it is that one
abbrev pub is_that : Option ℕ → ℕ → Bool
is_that None n = false
is_that (Some m) n = m == n

-- whether the node is the first of its class
abbrev pub is_first_by : List ℕ → (ℕ → CopyState) → ℕ → Bool
is_first_by l state n = is_that (class_first_by l state n) n

-- whether a node would send its records of the partition to another: its copy isn't empty, it is the
-- first of its class, and the other isn't in that class
abbrev pub sends_by : List ℕ → (ℕ → CopyState) → ℕ → ℕ → Bool
sends_by l state from to =
    not (is_empty (state from)) && (is_first_by l state from && not (same_class_by state from to))

-- whom a node asks for their versions of a record of the partition: the firsts of all classes but its
-- own, in list order
abbrev pub asked_among : List ℕ → (ℕ → CopyState) → ℕ → List ℕ
asked_among l state by = filter (λ n. is_first_by l state n && not (same_class_by state by n)) l
