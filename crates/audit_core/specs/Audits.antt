-- What the auditor knows after lines that keep the laws.
use Rattle.std.specs.Prelude.{◌≡◌, ◌+◌, ℕ, Bool, true, false, take, slice_get, List, Option, Some}
use Rattle.cluster_types.specs.declared.cluster_key.ClusterKey.{ClusterKey}
use Rattle.journal_readings.specs.Settings.{factor_of}
use Rattle.journal_readings.specs.Rows.{row, row_whole_key}
use Rattle.journal_lines.specs.declared.line.Line.{Line}
use Rattle.journal_lines.specs.declared.line.Line.TheVariants as line
use Rattle.journal_readings.specs.Shape.{is_header}
use Rattle.audit_laws.specs.Fits.{Fits, FitsShape}
use Rattle.audit_laws.specs.Lawful.{Lawful}
use Rattle.audit_core.specs.declared.judge.Judge.{Judge}
use Rattle.audit_core.specs.Sees.{SeesState}

-- the lines so far, this many
abbrev pub so_far : Judge → ℕ → List Line
so_far s i = take i s.lines.now

-- they keep the laws, and what is known is what they say
pub record Audits (s : Judge) (i : ℕ) : Type 0 where
  pub lawful : Lawful (so_far s i)
  pub state : SeesState s i s.lines.now

-- of what is known only what stamps copies may have changed
abbrev pub KeepsAll : Judge → Judge → Type 0
KeepsAll old new = record new { stamps = old.stamps } ≡ old

-- the key by which the member's copy of the partition was whole as it entered the view
abbrev pub entered_whole : Judge → ℕ → ClusterKey → ℕ → ℕ → Option ClusterKey
entered_whole s i k p n = row_whole_key (row (factor_of (so_far s i)) k n p (so_far s i))

-- ---- the next line

-- the line stands behind those so far, is none of a header, and fits the shape
pub record Comes (s : Judge) (i : ℕ) (l : Line) : Type 0 where
  pub audits : Audits s i
  pub stands : slice_get s.lines.now i ≡ Some l
  pub shape : FitsShape (so_far s i) l
  pub event : is_header l ≡ false

-- the line fits all laws, and what is known is what it and those before it say
pub record AcceptsLine (old new : Judge) (i : ℕ) (l : Line) : Type 0 where
  pub lines : new.lines.now ≡ old.lines.now
  pub fits : Fits (so_far old i) l
  pub sees : SeesState new (i + 1) old.lines.now

-- whether nothing is asked of the line but the shape, and nothing changes by it
abbrev pub is_idle : Line → Bool
is_idle (line.Clock n time) = false
is_idle (line.Stop n) = false
is_idle (line.Enter n k ms) = false
is_idle (line.Exchanged n k) = false
is_idle (line.Settled n k p) = false
is_idle (line.Learn n k p) = false
is_idle (line.Drop n k p) = false
is_idle (line.Apply n k t d v) = false
is_idle (line.Merge n k d v) = false
is_idle (line.Done n k t) = false
is_idle (line.Value n k t d v) = false
is_idle (line.Map n k p ms a) = false
is_idle _ = true
