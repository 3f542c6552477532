-- What a line that brings a version, or takes one away, makes of what nodes hold.
use Rattle.std.specs.Prelude.{◌≡◌, ◌==◌, ℕ, true, false, not, List, Some, None, is_some, length, slice_get}
use Rattle.conflict_order.specs.declared.version.Version.{Version}
use Rattle.cluster_types.specs.declared.cluster_key.ClusterKey.{ClusterKey}
use Rattle.cluster_types.specs.Partitions.{partition_of}
use Rattle.journal_lines.specs.declared.line.Line.{Line}
use Rattle.journal_lines.specs.declared.line.Line.TheVariants as line
use Rattle.journal_readings.specs.Lines.{same_key}
use Rattle.audit_core.specs.declared.judge.Judge.{Judge}
use Rattle.audit_core.specs.Frames.{Both}
use Rattle.audit_core.specs.Holders.{content_now}
use Rattle.audit_core.specs.Known.{kept_view}
use Rattle.audit_state.specs.Places.{placed, placed_version, is_at_most}
use Rattle.audit_state.specs.Records.{newest_of, record_digest, KeepsNumbers, AreNumberedRecords}
use Rattle.audit_core.specs.Stored.{SeesContents, SeesCopies}
use Rattle.audit_state.specs.Stores.{history_of, PutsContent, AddsToCopy, NotesChange}
use Rattle.audit_state.specs.Written.{WritesRecord}

-- nothing changes but what nodes hold, and how many hold the newest versions
pub record KeepsLines (old new : Judge) : Type 0 where
  pub rest : record new { stores = old.stores; records = old.records } ≡ old
  pub numbers : KeepsNumbers old.records new.records
  pub newest : (r : ℕ) → newest_of new.records r ≡ newest_of old.records r

-- the node holds the version at the line
pub record StoresVersion (old new : Judge) (line n r p : ℕ) : Type 0 where
  pub keeps : KeepsLines old new
  pub contents : PutsContent old.stores new.stores n r (record { line = line; value = Some line })
  pub copies : AddsToCopy old.stores new.stores line n p r (is_some (content_now old n r))
      (not (length (history_of old.stores n r) == 0))

-- the version at the line comes to the node, which holds it only where it is above what it held
pub record BringsVersion (old new : Judge) (line n r p : ℕ) : Type 0 where
  pub passed : is_at_most old.by (placed_version old.lines.now line)
      (placed old.lines.now (content_now old n r)) ≡ true → new ≡ old
  pub stored : is_at_most old.by (placed_version old.lines.now line)
      (placed old.lines.now (content_now old n r)) ≡ false → StoresVersion old new line n r p

-- the node holds nothing of the record from the line on
pub record RemovesRecord (old new : Judge) (line n r p : ℕ) : Type 0 where
  pub keeps : KeepsLines old new
  pub contents : PutsContent old.stores new.stores n r (record { line = line; value = None })
  pub copies : NotesChange old.stores new.stores line n p r

-- the version at the line is written in the view: nothing else changes but what nodes hold, and the
-- newest versions
pub record AppliesWrite (old new : Judge) (line r p : ℕ) (k : ClusterKey) : Type 0 where
  pub rest : record new { stores = old.stores; records = old.records; views = old.views } ≡ old
  pub numbers : KeepsNumbers old.records new.records
  pub here : Both (WritesRecord old.by old.lines.now line r p) (kept_view old k) (kept_view new k)
  pub others : (l : ClusterKey) → same_key k l ≡ false → kept_view new l ≡ kept_view old l

-- ---- by the lines

-- what nodes hold is what the first lines say, this many
pub record SeesHeld (s : Judge) (i : ℕ) : Type 0 where
  pub contents : SeesContents s.stores s.records s.lines.now s.by i
  pub copies : SeesCopies s.stores s.records s.lines.now i

-- the line brings the version of the record to the node
abbrev pub IsBrought : Line → ℕ → List ℕ → Version → Type 0
IsBrought (line.Apply m k t e w) n d v = (m ≡ n) × (e ≡ d) × (w ≡ v)
IsBrought (line.Merge m k e w) n d v = (m ≡ n) × (e ≡ d) × (w ≡ v)
IsBrought _ n d v = ⊥

-- the line at this place does, to the record of this number, in this partition
pub record BringsHere (s : Judge) (i n r p : ℕ) (l : Line) (d : List ℕ) (v : Version) : Type 0 where
  pub stands : slice_get s.lines.now i ≡ Some l
  pub brought : IsBrought l n d v
  pub named : record_digest s.records r ≡ Some d
  pub part : partition_of d ≡ p
  pub numbered : AreNumberedRecords s.records

-- the line at this place applies a write of the node to the record of this number, in the view
pub record WritesHere (s : Judge) (i n r : ℕ) (k : ClusterKey) (d : List ℕ) (t : ℕ) (v : Version)
    : Type 0 where
  pub stands : slice_get s.lines.now i ≡ Some (line.Apply n k t d v)
  pub named : record_digest s.records r ≡ Some d

-- the line at this place brings the node a version of the record of this number from another
pub record MergesHere (s : Judge) (i n r : ℕ) (d : List ℕ) (k : ClusterKey) (v : Version)
    : Type 0 where
  pub stands : slice_get s.lines.now i ≡ Some (line.Merge n k d v)
  pub named : record_digest s.records r ≡ Some d
