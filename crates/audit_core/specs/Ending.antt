-- What is known behind a line that ends writes, while some of them are still counted as open.
use Rattle.std.specs.Prelude.{◌≡◌, ℕ, ◌==◌, ◌+◌, true, false, cond, is_some, List, ◌∷◌, Some, ◌⊎◌}
use Rattle.std.specs.List.{list_any, count_by}
use Rattle.cluster_types.specs.declared.cluster_key.ClusterKey.{ClusterKey}
use Rattle.cluster_types.specs.Partitions.{partition_of}
use Rattle.journal_lines.specs.declared.line.Line.{Line}
use Rattle.journal_readings.specs.Lines.{same_key, has_node, is_settled_line}
use Rattle.journal_readings.specs.Settled.{is_settled, is_open_write}
use Rattle.journal_readings.specs.Views.{master}
use Rattle.audit_core.specs.declared.judge.Judge.{Judge}
use Rattle.audit_laws.specs.declared.law.Law.TheVariants as law
use Rattle.audit_core.specs.declared.verdict.Stop.{Stop}
use Rattle.audit_core.specs.declared.verdict.Stop.TheVariants as stop
use Rattle.audit_core.specs.Audits.{so_far}
use Rattle.audit_core.specs.Covering.{SeesCovers}
use Rattle.audit_core.specs.Known.{kept_view}
use Rattle.audit_core.specs.Sees.{IsBound, AllJoin, IsTried, HasNoDoubts}
use Rattle.audit_core.specs.Stored.{IsRecordOf}
use Rattle.audit_core.specs.Trying.{SeesLines, SeesSettled, JoinsRecord, PartsRecord, StopsParted}
use Rattle.audit_state.specs.declared.views.View.{View}
use Rattle.audit_state.specs.declared.writes.Doubts.{Doubts}
use Rattle.audit_state.specs.Records.{record_number}
use Rattle.audit_state.specs.Written.{Stand, stand_of}

-- ---- some of the ended writes are still counted

-- of the ended writes in a view k, one in each of these partitions, how many are of the partition
-- in the view l
abbrev pub ended_in : ClusterKey → List ℕ → ClusterKey → ℕ → ℕ
ended_in k ended l p = cond (same_key k l) (count_by (λ q. q == p) ended) 0

-- whether the partition is settled by a line; of its writes those that are open are counted, and
-- this many more
pub record SeesEndedStand (j : List Line) (k : ClusterKey) (p more : ℕ) (x : Stand) : Type 0 where
  pub settled : x.settled ≡ list_any (is_settled_line k (master k p j) p) j
  pub open_writes : x.open_writes ≡ count_by (is_open_write k p (master k p j) j) j + more

-- of each partition of a known view what the lines say, but that some of the ended writes in the
-- view, one in each of these partitions, are still counted
pub record IsEnding (s : Judge) (i : ℕ) (k : ClusterKey) (ended : List ℕ) : Type 0 where
  pub stands : (l : ClusterKey) (p : ℕ) (x : View) → kept_view s l ≡ Some x
      → SeesEndedStand (so_far s i) l p (ended_in k ended l p) (stand_of x p)
  pub listed : (l : ClusterKey) (p : ℕ) (x : View) → kept_view s l ≡ Some x
      → has_node x.settled.items p ≡ (stand_of x p).settled
  pub unsettled : (l : ClusterKey) (p : ℕ) (x : View) → kept_view s l ≡ Some x
      → is_settled l p (so_far s i) ≡ false → HasNoDoubts (stand_of x p)
  pub tried : (l : ClusterKey) (p : ℕ) (x : View) → kept_view s l ≡ Some x
      → IsBound l p (so_far s i) → IsTried s (so_far s i) l p (stand_of x p)
  pub covers : SeesCovers s i
  pub known : (p : ℕ) → has_node ended p ≡ true → is_some (kept_view s k) ≡ true

-- ---- what a write's end says, by each number of lines by which the judge is known

-- one of the ended writes, of this partition, isn't counted any longer
unfoldable pub EndsOne : ℕ → ClusterKey → ℕ → Judge → Judge → Type 0
EndsOne i k p old new = (ended : List ℕ) → SeesLines old i
    → IsEnding old i k (p ∷ ended) → IsEnding new i k ended

-- a write's end stops rightly
unfoldable pub StopsEnding : ℕ → ClusterKey → ℕ → Judge → Stop → Type 0
StopsEnding i k p s x = (ended : List ℕ) → SeesLines s i
    → IsEnding s i k (p ∷ ended) → StopsParted x (so_far s i)

-- ---- what was in doubt is tried

-- the record is in doubt: all are, or it is one of the suspects
abbrev pub IsInDoubt : Judge → Doubts → List ℕ → Type 0
IsInDoubt s x d = (x.untried ≡ true)
    ⊎ ((r : ℕ) × (record_number s.records d ≡ Some r) × (has_node x.suspects.items r ≡ true))

-- behind so many lines, where the partition is bound, each replica in the view holds the fold of
-- each of its records that is in doubt
unfoldable pub TriesDoubts : ℕ → ClusterKey → ℕ → Doubts → Judge → Judge → Type 0
TriesDoubts i k p doubts old new = SeesLines old i → SeesSettled old i → SeesCovers old i
    → SeesCovers new i × (IsBound k p (so_far old i) → (d : List ℕ) → partition_of d ≡ p
    → IsInDoubt old doubts d → AllJoin k d (so_far old i))

-- memory ran out, or the partition is bound and some replica doesn't
unfoldable pub StopsDoubts : ℕ → ClusterKey → ℕ → Judge → Stop → Type 0
StopsDoubts i k p s stop.NoMemory = Unit {0}
StopsDoubts i k p s (stop.Breaks l) = SeesLines s i → SeesSettled s i → SeesCovers s i
    → (l ≡ law.SettledJoin) × IsBound k p (so_far s i)
    × (d : List ℕ) × (partition_of d ≡ p) × (AllJoin k d (so_far s i) → ⊥)

-- each replica in the view holds the fold of each of the records of these numbers
abbrev pub JoinsRecords : Judge → ClusterKey → List ℕ → ℕ → Type 0
JoinsRecords s k numbers p = (r : ℕ) → has_node numbers r ≡ true → JoinsRecord s k r p

-- some replica doesn't hold the fold of the record, which is one of the partition
pub record PartsOf (s : Judge) (k : ClusterKey) (r p : ℕ) : Type 0 where
  pub of : IsRecordOf s.records r p
  pub parted : PartsRecord s k r p

-- ... or of one of these
abbrev pub PartsOneOf : Judge → ClusterKey → List ℕ → ℕ → Type 0
PartsOneOf s k numbers p = (r : ℕ) × (has_node numbers r ≡ true) × PartsOf s k r p
