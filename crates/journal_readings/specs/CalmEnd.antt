-- What holds wherever the rounds have come to calm.
use Rattle.std.specs.Prelude.{◌≡◌, ℕ, ◌<◌, false, List, length, take, Some, None, slice_get, IsTrue, Contains}
use Rattle.std.specs.List.{list_all}
use Rattle.conflict_order.specs.declared.policy.Policy.{Policy}
use Rattle.cluster_types.specs.declared.cluster_key.ClusterKey.{ClusterKey}
use Rattle.cluster_types.specs.Partitions.{partition_count, partition_of}
use Rattle.cluster_types.specs.Members.{ids_of}
use Rattle.journal_lines.specs.declared.line.Line.{Line}
use Rattle.journal_lines.specs.declared.line.Line.TheVariants as line
use Rattle.journal_readings.specs.Settings.{policy_of, factor_of, nodes, is_node_up, groups_of, up_members}
use Rattle.journal_readings.specs.Contents.{content, applied}
use Rattle.journal_readings.specs.Views.{view, members, master, is_replica}
use Rattle.journal_readings.specs.Entries.{fold_of}
use Rattle.journal_readings.specs.Settled.{is_settled, has_open_write}

-- each replica of the view holds the fold of each record, and each other member has none of the partition's
pub record IsSpread (by : Policy) (factor : ℕ) (k : ClusterKey) (lines : List Line) : Type 0 where
  pub replicas : (n : ℕ) (d : List ℕ) → IsTrue (is_replica factor k (partition_of d) n lines)
      → content by n d lines ≡ fold_of by k d lines
  pub others : (n : ℕ) (d : List ℕ) → Contains (ids_of (members k lines)) n
      → is_replica factor k (partition_of d) n lines ≡ false → content by n d lines ≡ None

-- each replica of the view holds the newest version of each record that was ever applied
pub record HasNewest (by : Policy) (factor : ℕ) (k : ClusterKey) (lines : List Line) : Type 0 where
  pub replicas : (n : ℕ) (d : List ℕ) → IsTrue (is_replica factor k (partition_of d) n lines)
      → content by n d lines ≡ applied by d lines

-- each partition is settled in the view, no write is open in it, and its list master is in the view
pub record IsSettledThroughout (k : ClusterKey) (lines : List Line) : Type 0 where
  pub settled : (p : ℕ) → p < partition_count → IsTrue (is_settled k p lines)
  pub closed : (p : ℕ) → p < partition_count → has_open_write k p lines ≡ false
  pub served : (p : ℕ) → p < partition_count → view (master k p lines) lines ≡ Some k

-- all declared nodes are up and in one group
pub record IsUndivided (lines : List Line) : Type 0 where
  pub up : IsTrue (list_all (λ n. is_node_up n lines) (nodes lines))
  pub one_group : length (groups_of lines) ≡ 1

-- the up nodes of the group are in one view of just these nodes with the roles that they now have; its
-- partitions are settled, and its records are spread over it
pub record RestsIn (by : Policy) (factor : ℕ) (group : List ℕ) (k : ClusterKey) (lines : List Line)
    : Type 0 where
  pub viewed : (n : ℕ) → Contains group n → IsTrue (is_node_up n lines) → view n lines ≡ Some k
  pub among : members k lines ≡ up_members group lines
  pub settled : IsSettledThroughout k lines
  pub spread : IsSpread by factor k lines
  pub newest : IsUndivided lines → HasNewest by factor k lines

-- each group with an up node rests in a view
abbrev pub IsAtRest : Policy → ℕ → List Line → Type 0
IsAtRest by factor lines =
    (group : List ℕ) (n : ℕ) → Contains (groups_of lines) group → Contains group n
    → IsTrue (is_node_up n lines) → (k : ClusterKey) × RestsIn by factor group k lines

-- at every line that says so the world is at rest
pub record CalmEnd (j : List Line) : Type 0 where
  pub at_rest : (i rounds : ℕ) → slice_get j i ≡ Some (line.Calm rounds)
      → IsAtRest (policy_of j) (factor_of j) (take i j)
