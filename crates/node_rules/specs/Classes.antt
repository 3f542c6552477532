-- Classes of members whose copies of a partition are equal, as their rows tell: who sends records to whom, and who is
-- asked.
pub use Rattle.partition_lists.specs.Classes.{is_whole_with, is_that}
use Rattle.std.specs.Prelude.{ℕ, ◌==◌, ◌&&◌, Bool, not, List, Option}
use Rattle.cluster_types.specs.declared.copy_state.CopyState.{CopyState}
use Rattle.node_rules.specs.declared.member_row.MemberRow.{MemberRow}
use Rattle.node_rules.specs.Tables.{contains}
use Rattle.node_rules.specs.Map.{row_state_at}
use Rattle.partition_lists.specs.Classes.{is_in_class_by, same_class_by, class_first_by, is_first_by, sends_by, asked_among}
use Rattle.partition_lists.specs.Lists.{replicas}

-- whether the second node is in the class of the first, which has this state
abbrev pub is_in_class : List MemberRow → ℕ → ℕ → ℕ → CopyState → Bool
is_in_class rows p a b state = is_in_class_by (row_state_at rows p) a b state

-- whether the second node is in the class of the first
abbrev pub same_class : List MemberRow → ℕ → ℕ → ℕ → Bool
same_class rows p a b = same_class_by (row_state_at rows p) a b

-- the first of the list that is in the node's class; none where the node's copy was empty
abbrev pub class_first : List ℕ → List MemberRow → ℕ → ℕ → Option ℕ
class_first l rows p n = class_first_by l (row_state_at rows p) n

-- whether the node is the first of its class
abbrev pub is_first : List ℕ → List MemberRow → ℕ → ℕ → Bool
is_first l rows p n = is_first_by l (row_state_at rows p) n

-- whether a node would send its records of the partition to another: its copy isn't empty, it is the
-- first of its class, and the other isn't in that class
abbrev pub sends : List ℕ → List MemberRow → ℕ → ℕ → ℕ → Bool
sends l rows p from to = sends_by l (row_state_at rows p) from to

-- whether it does send them: the other is besides a replica and another node
abbrev pub sends_to : List ℕ → ℕ → List MemberRow → ℕ → ℕ → ℕ → Bool
sends_to l factor rows p from to =
    contains (replicas l factor) to && (not (from == to) && sends l rows p from to)

-- whom a node asks for their versions of a record of the partition: the firsts of all classes but its
-- own, in list order
abbrev pub asked_by_rows : List ℕ → List MemberRow → ℕ → ℕ → List ℕ
asked_by_rows l rows p by = asked_among l (row_state_at rows p) by
