-- What is fixed through a run, and who serves a partition in each view by it.
--
-- A view has one list of members, and each member enters it with one row of states. Here both are
-- given for each key, so that the list master, the acting master and the classes of equal copies are
-- functions of the key and the partition.
use Rattle.std.specs.Prelude.{◌<◌, ℕ, ◌==◌, ◌&&◌, Bool, not, List}
use Rattle.conflict_order.specs.declared.policy.Policy.{Policy}
use Rattle.cluster_types.specs.declared.cluster_key.ClusterKey.{ClusterKey}
use Rattle.cluster_types.specs.declared.copy_state.CopyState.{CopyState}
use Rattle.cluster_types.specs.declared.member.Member.{Member}
use Rattle.cluster_types.specs.Distinct.{without, contains}
use Rattle.cluster_types.specs.Members.{ids_of}
use Rattle.partition_lists.specs.Acting.{list_master, acting_by, all_empty_by}
use Rattle.partition_lists.specs.Classes.{same_class_by, is_first_by, sends_by, asked_among}
use Rattle.partition_lists.specs.Lists as lists

pub record Ground : Type 0 where
  -- how versions of one record compare
  pub by : Policy
  -- how many replicas a partition has
  pub factor : ℕ
  -- the members of the view of each key
  pub members : ClusterKey → List Member
  -- the state of a member's copy of a partition as it entered the view of the key
  pub row : ClusterKey → ℕ → ℕ → CopyState

-- there is a replica where there is a member
pub record IsGround (G : Ground) : Type 0 where
  pub some : 0 < G.factor

-- ---- the list

-- whether the node is a member of the view
abbrev pub is_view_member : Ground → ClusterKey → ℕ → Bool
is_view_member G k n = contains (ids_of (G.members k)) n

-- the members in the order in which they are to have the partition's records
abbrev pub view_list : Ground → ClusterKey → ℕ → List ℕ
view_list G k p = lists.list (G.members k) p

-- the list master
unfoldable pub view_master : Ground → ClusterKey → ℕ → ℕ
view_master G k p = list_master (view_list G k p)

-- the replicas, in list order
abbrev pub view_replicas : Ground → ClusterKey → ℕ → List ℕ
view_replicas G k p = lists.replicas (view_list G k p) G.factor

-- whether the node is a replica
unfoldable pub is_view_replica : Ground → ClusterKey → ℕ → ℕ → Bool
is_view_replica G k p n = contains (view_replicas G k p) n

-- the replicas but the node
unfoldable pub other_view_replicas : Ground → ClusterKey → ℕ → ℕ → List ℕ
other_view_replicas G k p n = without (view_replicas G k p) n

-- ---- the acting master

-- the state of a member's copy of the partition as it entered the view
abbrev pub view_state : Ground → ClusterKey → ℕ → ℕ → CopyState
view_state G k p n = G.row k n p

-- the acting master
unfoldable pub view_acting : Ground → ClusterKey → ℕ → ℕ
view_acting G k p = acting_by (view_list G k p) (view_state G k p)

-- whether no member had a record of the partition as it entered
unfoldable pub is_view_empty : Ground → ClusterKey → ℕ → Bool
is_view_empty G k p = all_empty_by (view_list G k p) (view_state G k p)

-- ---- classes of equal copies

-- whether the second node is in the class of the first
unfoldable pub same_view_class : Ground → ClusterKey → ℕ → ℕ → ℕ → Bool
same_view_class G k p a b = same_class_by (view_state G k p) a b

-- whether the node is the first of its class
unfoldable pub is_view_class_first : Ground → ClusterKey → ℕ → ℕ → Bool
is_view_class_first G k p n = is_first_by (view_list G k p) (view_state G k p) n

-- whether a node hands its records on to another, which is a replica and another node
unfoldable pub view_sends_to : Ground → ClusterKey → ℕ → ℕ → ℕ → Bool
view_sends_to G k p from to =
    is_view_replica G k p to
    && (not (from == to) && sends_by (view_list G k p) (view_state G k p) from to)

-- whom a node asks for their versions of a record: the firsts of all classes but its own, in list order
unfoldable pub asks : Ground → ClusterKey → ℕ → ℕ → List ℕ
asks G k p by = asked_among (view_list G k p) (view_state G k p) by
