-- What each law asks of one line more, behind a journal that keeps the laws.
use Rattle.std.specs.Prelude.{◌≡◌, ℕ, ◌==◌, ◌&&◌, ◌||◌, Bool, true, false, not, List, [], ◌∷◌, ◌++◌, map, filter, Option, Some, IsTrue, bytes_eq}
use Rattle.std.specs.List.{list_any}
use Rattle.conflict_order.specs.declared.policy.Policy.{Policy}
use Rattle.conflict_order.specs.declared.version.Version.{Version}
use Rattle.conflict_order.specs.Join.{AtMost}
use Rattle.cluster_types.specs.declared.cluster_key.ClusterKey.{ClusterKey}
use Rattle.cluster_types.specs.Partitions.{partition_of}
use Rattle.journal_lines.specs.declared.line.Line.{Line}
use Rattle.journal_lines.specs.declared.line.Line.TheVariants as line
use Rattle.journal_readings.specs.Lines.{same_key, has_node}
use Rattle.journal_readings.specs.Settings.{policy_of, factor_of, nodes}
use Rattle.journal_readings.specs.Contents.{content, applied, join_all}
use Rattle.journal_readings.specs.Views.{view, is_in_view, members, master, is_replica}
use Rattle.journal_readings.specs.Entries.{fold_of}
use Rattle.journal_readings.specs.Settled.{is_settled, has_open_write}
use Rattle.journal_readings.specs.Claims.{ShowsMap, JoinsView}
use Rattle.journal_readings.specs.Shape.{follows_header, names_declared, EntersFalling, enters_once, names_entered, follows_entries}

-- ---- the shape

-- a node that the line declares wasn't declared before
abbrev pub declares_new : List Line → Line → Bool
declares_new j (line.Node n rack) = not (has_node (nodes j) n)
declares_new j _ = true

-- the line enters the view of this key
abbrev pub enters_key : ClusterKey → Line → Bool
enters_key k (line.Enter n l ms) = same_key l k
enters_key k _ = false

-- a node enters with the members with which others entered the view before it
abbrev pub NamesMembers : List Line → Line → Type 0
NamesMembers j (line.Enter n k ms) = list_any (enters_key k) j ≡ true → ms ≡ members k j
NamesMembers j _ = Unit {0}

-- what the shape asks of the line
pub record FitsShape (j : List Line) (l : Line) : Type 0 where
  pub header : IsTrue (follows_header j l)
  pub new : IsTrue (declares_new j l)
  pub named : IsTrue (names_declared (j ++ l ∷ []) l)
  pub members : NamesMembers j l
  pub falling : EntersFalling l
  pub entered : IsTrue (enters_once j l)
  pub in_view : IsTrue (names_entered j l)
  pub exchanged : IsTrue (follows_entries j l)

-- ---- losses

-- the newest version of the record that a node other than this one holds
abbrev pub newest_elsewhere : List Line → ℕ → List ℕ → Option Version
newest_elsewhere j n d =
    join_all (policy_of j)
    (map (λ m. content (policy_of j) m d j) (filter (λ m. not (m == n)) (nodes j)))

-- a version that comes from another node was applied, or one above it; and of a copy that is dropped another node holds
-- the newest version of each record
abbrev pub LosesNothing : List Line → Line → Type 0
LosesNothing j (line.Merge n k d v) = AtMost (policy_of j) (Some v) (applied (policy_of j) d j)
LosesNothing j (line.Drop n k p) =
    (d : List ℕ) → partition_of d ≡ p → newest_elsewhere j n d ≡ applied (policy_of j) d j
LosesNothing j _ = Unit {0}

-- ---- settled partitions

-- whether the line may part what a replica of the view holds of the record from the view's fold, or may be the one by
-- which a replica is to hold it: it brings a version of the record, or takes it away; the list master settles the
-- partition, finishes exchange or ends a write; or a member enters
abbrev pub may_part : List Line → Line → ClusterKey → List ℕ → Bool
may_part j (line.Apply n l t e v) k d = bytes_eq e d && (same_key l k || is_in_view k n j)
may_part j (line.Merge n l e v) k d = bytes_eq e d && is_in_view k n j
may_part j (line.Drop n l p) k d = (p == partition_of d) && is_in_view k n j
may_part j (line.Settled n l p) k d =
    (n == master k (partition_of d) j) && (same_key l k && (p == partition_of d))
may_part j (line.Exchanged n l) k d = (n == master k (partition_of d) j) && same_key l k
may_part j (line.Done n l t) k d = (n == master k (partition_of d) j) && same_key l k
may_part j (line.Enter n l ms) k d = same_key l k
may_part j _ k d = false

-- behind these lines, where the record's partition is settled in the view, no write is open and the list master is still
-- in it, the replica, if it is in the view too, holds the view's fold
abbrev pub HoldsFold : Policy → ℕ → List Line → ClusterKey → ℕ → List ℕ → Type 0
HoldsFold by factor j k r d =
    IsTrue (is_settled k (partition_of d) j)
    → has_open_write k (partition_of d) j ≡ false
    → view (master k (partition_of d) j) j ≡ Some k
    → IsTrue (is_replica factor k (partition_of d) r j)
    → view r j ≡ Some k
    → content by r d j ≡ fold_of by k d j

-- each replica of each view still holds the fold of what the line may have parted from it
pub record JoinsReplicas (j : List Line) (l : Line) : Type 0 where
  pub whole : (k : ClusterKey) (r : ℕ) (d : List ℕ) → IsTrue (may_part j l k d)
      → HoldsFold (policy_of (j ++ l ∷ [])) (factor_of (j ++ l ∷ [])) (j ++ l ∷ []) k r d

-- ---- all laws

-- what the laws ask of the line, in the order in which they are tried
pub record Fits (j : List Line) (l : Line) : Type 0 where
  pub shape : FitsShape j l
  pub map : ShowsMap j l
  pub losses : LosesNothing j l
  pub replicas : JoinsReplicas j l
  pub joins : JoinsView j j l
