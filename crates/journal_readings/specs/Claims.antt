-- What holds of the journal of every run.
use Rattle.std.specs.Prelude.{◌≡◌, ℕ, false, List, map, take, Option, Some, slice_get, IsTrue}
use Rattle.conflict_order.specs.declared.version.Version.{Version}
use Rattle.conflict_order.specs.Next.{next}
use Rattle.cluster_types.specs.declared.cluster_key.ClusterKey.{ClusterKey}
use Rattle.cluster_types.specs.declared.member.Member.{Member}
use Rattle.cluster_types.specs.ClusterKeys.{key_lt}
use Rattle.cluster_types.specs.Partitions.{partition_of}
use Rattle.journal_lines.specs.declared.line.Line.{Line}
use Rattle.journal_lines.specs.declared.line.Line.TheVariants as line
use Rattle.journal_readings.specs.Settings.{policy_of, factor_of, nodes, clock_of}
use Rattle.journal_readings.specs.Contents.{content, applied, join_all}
use Rattle.journal_readings.specs.Views.{promised_key, last_key, view, master, is_replica}
use Rattle.journal_readings.specs.Entries.{entry, fold_of}
use Rattle.journal_readings.specs.Classes.{are_in_one_class}
use Rattle.journal_readings.specs.Maps.{listed_members, acting}
use Rattle.journal_readings.specs.Settled.{is_settled, has_open_write}
use Rattle.journal_readings.specs.NamedKeys.{names_promised, named_members}

-- ---- one map

-- the line shows the list of the partition and the member that acts for it
abbrev pub ShowsMap : List Line → Line → Type 0
ShowsMap j (line.Map n k p ms a) = (ms ≡ listed_members k p j) × (a ≡ acting (factor_of j) k p j)
ShowsMap j _ = Unit {0}

-- nodes that finished exchange under one key show one map: the one that the members and the states of
-- their copies on entry give
pub record OneMap (j : List Line) : Type 0 where
  pub shown : (i : ℕ) (l : Line) → slice_get j i ≡ Some l → ShowsMap j l
  pub same : (i o n m p : ℕ) (k : ClusterKey) (ms others : List Member) (a b : ℕ)
      → slice_get j i ≡ Some (line.Map n k p ms a) → slice_get j o ≡ Some (line.Map m k p others b)
      → (ms ≡ others) × (a ≡ b)

-- ---- no loss

-- the newest version of a record in any store, of an up node or a stopped one
abbrev pub newest : List Line → List ℕ → ℕ → Option Version
newest j d i = join_all (policy_of j) (map (λ n. content (policy_of j) n d (take i j)) (nodes j))

-- after every line it is the newest that was ever applied
pub record NoLoss (j : List Line) : Type 0 where
  pub none_lost : (i : ℕ) (d : List ℕ) → newest j d i ≡ applied (policy_of j) d (take i j)

-- ---- the joins

-- where a partition is settled, no write is open and the list master is still in the view, each replica that
-- is in the view holds exactly the join of what the members held on entry and of what was applied since
pub record SettledJoin (j : List Line) : Type 0 where
  pub whole : (i : ℕ) (k : ClusterKey) (r : ℕ) (d : List ℕ)
      → IsTrue (is_settled k (partition_of d) (take i j))
      → has_open_write k (partition_of d) (take i j) ≡ false
      → view (master k (partition_of d) (take i j)) (take i j) ≡ Some k
      → IsTrue (is_replica (factor_of j) k (partition_of d) r (take i j))
      → view r (take i j) ≡ Some k
      → content (policy_of j) r d (take i j) ≡ fold_of (policy_of j) k d (take i j)

-- a read answers the join of its view, and a write makes the next version of it
abbrev pub JoinsView : List Line → List Line → Line → Type 0
JoinsView j before (line.Value n k t d v) = v ≡ fold_of (policy_of j) k d before
JoinsView j before (line.Apply n k t d v) =
    v ≡ next (fold_of (policy_of j) k d before) (clock_of n before) v.body
JoinsView j before _ = Unit {0}

-- every resolved read answers the join, and every write follows it
pub record ReadJoin (j : List Line) : Type 0 where
  pub joined : (i : ℕ) (l : Line) → slice_get j i ≡ Some l → JoinsView j (take i j) l

-- ---- equal copies

-- members whose copies are in one class held the same of every record of the partition as they entered
pub record EqualClasses (j : List Line) : Type 0 where
  pub equal : (i : ℕ) (k : ClusterKey) (n m : ℕ) (d : List ℕ)
      → IsTrue (are_in_one_class (factor_of j) k (partition_of d) n m (take i j))
      → entry (policy_of j) k n d (take i j) ≡ entry (policy_of j) k m d (take i j)

-- ---- keys

-- a key that is promised is above the one that was promised before, and one that is entered above the last
abbrev pub RaisesKey : List Line → Line → Type 0
RaisesKey before (line.Promise n k) = IsTrue (key_lt (promised_key n before) k)
RaisesKey before (line.Enter n k ms) = IsTrue (key_lt (last_key n before) k)
RaisesKey before _ = Unit {0}

-- promised keys and entered keys rise at each node, none enters above what it promised, every key in a line or a
-- message is at most what its principal has promised, and a key has one list of members everywhere
pub record KeysRise (j : List Line) : Type 0 where
  pub rises : (i : ℕ) (l : Line) → slice_get j i ≡ Some l → RaisesKey (take i j) l
  pub promised : (i n : ℕ) → key_lt (promised_key n (take i j)) (last_key n (take i j)) ≡ false
  pub named : (i : ℕ) (l : Line) → slice_get j i ≡ Some l → IsTrue (names_promised (take i j) l)
  pub one_list : (i o : ℕ) (l m : Line) (k : ClusterKey) (ms others : List Member)
      → slice_get j i ≡ Some l → slice_get j o ≡ Some m
      → named_members l ≡ Some (k, ms) → named_members m ≡ Some (k, others) → ms ≡ others
