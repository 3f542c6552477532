-- What a replica holds of a partition's records, beside what members held and the fold of its view.
use Rattle.std.specs.Prelude.{◌≡◌, ℕ, ◌<◌, ◌≤◌, ◌&&◌, Bool, true, false, Contains, List, [], Option, Some, None}
use Rattle.cluster_types.specs.declared.cluster_key.ClusterKey.{ClusterKey}
use Rattle.cluster_types.specs.declared.member.Member.{Member}
use Rattle.cluster_types.specs.Members.{ids_of}
use Rattle.journal_readings.specs.Lines.{has_node}
use Rattle.audit_core.specs.declared.judge.Judge.{Judge}
use Rattle.audit_laws.specs.declared.law.Law.TheVariants as law
use Rattle.audit_core.specs.declared.verdict.Stop.{Stop}
use Rattle.audit_core.specs.declared.verdict.Stop.TheVariants as stop
use Rattle.audit_core.specs.Covering.{SeesCovers}
use Rattle.audit_core.specs.Folds.{entry_place, folded}
use Rattle.audit_core.specs.Holders.{content_now}
use Rattle.audit_core.specs.Known.{view_at, kept_view}
use Rattle.audit_core.specs.Stored.{IsRecordOf}
use Rattle.audit_core.specs.Trying.{SeesLines, covers_record}
use Rattle.audit_state.specs.declared.copies.RecordChange.{RecordChange}
use Rattle.audit_state.specs.declared.views.View.{View}
use Rattle.audit_state.specs.Places.{placed, is_at_most}
use Rattle.audit_state.specs.Written.{written_of}

-- ---- beside what a member held

-- of some record of the partition the node holds less than the member held after so many lines
pub record Uncovered (s : Judge) (n m of p : ℕ) : Type 0 where
  pub number : ℕ
  pub part : IsRecordOf s.records number p
  pub less : covers_record s n m of number ≡ false

-- the node holds at least what the member held of each record of the partition; or it doesn't
abbrev pub TellsCover : Judge → ℕ → ℕ → ℕ → ℕ → Bool → Type 0
TellsCover s n m of p true = (r : ℕ) → IsRecordOf s.records r p → covers_record s n m of r ≡ true
TellsCover s n m of p false = Uncovered s n m of p

-- whether it holds at least what the member held of the record that changed, if one did
abbrev pub covers_change : Judge → ℕ → ℕ → ℕ → Option RecordChange → Bool
covers_change s n m of None = true
covers_change s n m of (Some y) = covers_record s n m of y.number

-- of each record that changed at a node from the one number of lines on to the other; or of some it
-- doesn't
abbrev pub TellsChanges : Judge → ℕ → ℕ → ℕ → ℕ → ℕ → List RecordChange → Bool → Type 0
TellsChanges s n m of from to changes true =
    (y : RecordChange) → Contains changes y → from ≤ y.line → y.line < to
    → covers_record s n m of y.number ≡ true
TellsChanges s n m of from to changes false =
    (y : RecordChange) × Contains changes y × (covers_record s n m of y.number ≡ false)

-- ---- beside the fold of its view

-- the node holds the fold of each record of the partition
abbrev pub HoldsFolds : Judge → ClusterKey → ℕ → ℕ → Type 0
HoldsFolds s k n p = (r : ℕ) → IsRecordOf s.records r p
    → placed s.lines.now (content_now s n r) ≡ folded s (kept_view s k) r

-- of some record it holds another version
pub record PartsFolds (s : Judge) (k : ClusterKey) (n p : ℕ) : Type 0 where
  pub number : ℕ
  pub part : IsRecordOf s.records number p
  pub parted : placed s.lines.now (content_now s n number) ≡ folded s (kept_view s k) number → ⊥

-- whether it holds at most the fold of the record
abbrev pub holds_at_most : Judge → ClusterKey → ℕ → ℕ → Bool
holds_at_most s k n r =
    is_at_most s.by (placed s.lines.now (content_now s n r)) (folded s (kept_view s k) r)

-- whether it holds just that
abbrev pub holds_fold : Judge → ClusterKey → ℕ → ℕ → Bool
holds_fold s k n r =
    holds_at_most s k n r
    && is_at_most s.by (folded s (kept_view s k) r) (placed s.lines.now (content_now s n r))

-- the records of the partition that were applied in the view
abbrev pub written_from : Option View → ℕ → List ℕ
written_from None p = []
written_from (Some x) p = written_of x p

-- whether it holds at most the fold of the record that changed, if one did
abbrev pub holds_change : Judge → ClusterKey → ℕ → Option RecordChange → Bool
holds_change s k n None = true
holds_change s k n (Some y) = holds_at_most s k n y.number

-- it holds at most the fold of each record that changed from so many lines on; or of some it
-- doesn't
abbrev pub TellsNoMore : Judge → ClusterKey → ℕ → ℕ → List RecordChange → Bool → Type 0
TellsNoMore s k n from changes true =
    (y : RecordChange) → Contains changes y → from ≤ y.line → holds_at_most s k n y.number ≡ true
TellsNoMore s k n from changes false =
    (y : RecordChange) × Contains changes y × (holds_at_most s k n y.number ≡ false)

-- the same since it entered, if it did
abbrev pub TellsNoMoreSince : Judge → ClusterKey → ℕ → Option ℕ → List RecordChange → Bool → Type 0
TellsNoMoreSince s k n None changes b = b ≡ true
TellsNoMoreSince s k n (Some from) changes b = TellsNoMore s k n from changes b

-- ---- what trying a replica says, behind so many lines

-- what the node holds now covers what the member held, or it doesn't, as is known by what is noted
-- of covers
unfoldable pub LearnsCover : ℕ → ℕ → ℕ → ℕ → ℕ → Judge → Judge → Bool → Type 0
LearnsCover i n m of p old new b =
    SeesLines old i → SeesCovers old i → of ≤ i → SeesCovers new i × TellsCover old n m of p b

-- the node holds at least what the member held as it entered the view
abbrev pub CoversEntry : Judge → ClusterKey → ℕ → ℕ → ℕ → Type 0
CoversEntry s k n m p = (x : View) (r : ℕ) → kept_view s k ≡ Some x → IsRecordOf s.records r p
    → is_at_most s.by (placed s.lines.now (entry_place s x r m))
    (placed s.lines.now (content_now s n r)) ≡ true

-- of some record of the partition it holds less
pub record PartsEntry (s : Judge) (k : ClusterKey) (n m p : ℕ) : Type 0 where
  pub known : View
  pub there : kept_view s k ≡ Some known
  pub number : ℕ
  pub part : IsRecordOf s.records number p
  pub less : is_at_most s.by (placed s.lines.now (entry_place s known number m))
      (placed s.lines.now (content_now s n number)) ≡ false

unfoldable pub JoinsEntry : ℕ → ClusterKey → ℕ → ℕ → ℕ → Judge → Judge → Type 0
JoinsEntry i k n m p old new =
    SeesLines old i → SeesCovers old i → SeesCovers new i × CoversEntry old k n m p

-- memory ran out, or the node holds less of some record
unfoldable pub StopsEntry : ℕ → ClusterKey → ℕ → ℕ → ℕ → Judge → Stop → Type 0
StopsEntry i k n m p s stop.NoMemory = Unit {0}
StopsEntry i k n m p s (stop.Breaks l) =
    SeesLines s i → SeesCovers s i → (l ≡ law.SettledJoin) × PartsEntry s k n m p

-- the same of each of these members
unfoldable pub JoinsEntries : ℕ → ClusterKey → ℕ → List Member → ℕ → Judge → Judge → Type 0
JoinsEntries i k n ms p old new = SeesLines old i → SeesCovers old i
    → SeesCovers new i × ((m : ℕ) → has_node (ids_of ms) m ≡ true → CoversEntry old k n m p)

unfoldable pub StopsEntries : ℕ → ClusterKey → ℕ → List Member → ℕ → Judge → Stop → Type 0
StopsEntries i k n ms p s stop.NoMemory = Unit {0}
StopsEntries i k n ms p s (stop.Breaks l) = SeesLines s i → SeesCovers s i
    → (l ≡ law.SettledJoin) × (m : ℕ) × (has_node (ids_of ms) m ≡ true) × PartsEntry s k n m p

-- the node holds the fold of each record, if it is in the view
unfoldable pub JoinsReplica : ℕ → ClusterKey → ℕ → ℕ → Judge → Judge → Type 0
JoinsReplica i k n p old new = SeesLines old i → SeesCovers old i
    → SeesCovers new i × (view_at old n ≡ Some k → HoldsFolds old k n p)

-- memory ran out, or it is in the view and parts from the fold
unfoldable pub StopsReplica : ℕ → ClusterKey → ℕ → ℕ → Judge → Stop → Type 0
StopsReplica i k n p s stop.NoMemory = Unit {0}
StopsReplica i k n p s (stop.Breaks l) = SeesLines s i → SeesCovers s i
    → (l ≡ law.SettledJoin) × (view_at s n ≡ Some k) × PartsFolds s k n p

-- the same of each of these nodes
unfoldable pub JoinsEachReplica : ℕ → ClusterKey → List ℕ → ℕ → Judge → Judge → Type 0
JoinsEachReplica i k ns p old new = SeesLines old i → SeesCovers old i
    → SeesCovers new i
    × ((n : ℕ) → has_node ns n ≡ true → view_at old n ≡ Some k → HoldsFolds old k n p)

unfoldable pub StopsReplicas : ℕ → ClusterKey → List ℕ → ℕ → Judge → Stop → Type 0
StopsReplicas i k ns p s stop.NoMemory = Unit {0}
StopsReplicas i k ns p s (stop.Breaks l) = SeesLines s i → SeesCovers s i
    → (l ≡ law.SettledJoin) × (n : ℕ) × (has_node ns n ≡ true) × (view_at s n ≡ Some k)
    × PartsFolds s k n p
