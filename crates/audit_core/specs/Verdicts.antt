-- What an audit answers, by the laws.
use Rattle.std.specs.Prelude.{◌≡◌, ℕ, ◌+◌, ◌<◌, ◌≤◌, List, length, take}
use Rattle.journal_lines.specs.declared.line.Line.{Line}
use Rattle.journal_readings.specs.Claims.{OneMap, NoLoss, SettledJoin, ReadJoin, ShowsMap, JoinsView}
use Rattle.journal_readings.specs.Shape.{Shape}
use Rattle.audit_laws.specs.Fits.{FitsShape, LosesNothing, JoinsReplicas}
use Rattle.audit_laws.specs.Lawful.{Lawful}
use Rattle.audit_laws.specs.declared.law.Law.{Law}
use Rattle.audit_laws.specs.declared.law.Law.TheVariants as law
use Rattle.audit_core.specs.declared.verdict.Stop.{Stop}
use Rattle.audit_core.specs.declared.verdict.Stop.TheVariants as stop
use Rattle.audit_core.specs.declared.verdict.Verdict.{Verdict}
use Rattle.audit_core.specs.declared.verdict.Verdict.TheVariants as verdict

-- ---- of a journal

-- the journal keeps the law
abbrev pub KeepsLaw : Law → List Line → Type 0
KeepsLaw law.Shape j = Shape j
KeepsLaw law.OneMap j = OneMap j
KeepsLaw law.NoLoss j = NoLoss j
KeepsLaw law.SettledJoin j = SettledJoin j
KeepsLaw law.ReadJoin j = ReadJoin j

-- and those that are tried before it
abbrev pub KeepsBefore : Law → List Line → Type 0
KeepsBefore law.Shape j = Unit {0}
KeepsBefore law.OneMap j = Shape j
KeepsBefore law.NoLoss j = Shape j × OneMap j
KeepsBefore law.SettledJoin j = Shape j × OneMap j × NoLoss j
KeepsBefore law.ReadJoin j = Shape j × OneMap j × NoLoss j × SettledJoin j

-- the journal's first lines, this many, are the fewest that break a law, and this is the first law
-- that they break
pub record FailsFirst (j : List Line) (law : Law) (line : ℕ) : Type 0 where
  pub some : 0 < line
  pub within : line ≤ length j
  pub before : (i : ℕ) → i < line → Lawful (take i j)
  pub kept : KeepsBefore law (take line j)
  pub broken : ¬ KeepsLaw law (take line j)

-- the verdict is right
abbrev pub IsVerdict : List Line → Verdict → Type 0
IsVerdict j verdict.Holds = Lawful j
IsVerdict j (verdict.Fails law line) = FailsFirst j law line

-- ---- of one line more

-- the line fits the law
abbrev pub FitsLaw : Law → List Line → Line → Type 0
FitsLaw law.Shape j l = FitsShape j l
FitsLaw law.OneMap j l = ShowsMap j l
FitsLaw law.NoLoss j l = LosesNothing j l
FitsLaw law.SettledJoin j l = JoinsReplicas j l
FitsLaw law.ReadJoin j l = JoinsView j j l

-- and those that are tried before it
abbrev pub FitsBefore : Law → List Line → Line → Type 0
FitsBefore law.Shape j l = Unit {0}
FitsBefore law.OneMap j l = FitsShape j l
FitsBefore law.NoLoss j l = FitsShape j l × ShowsMap j l
FitsBefore law.SettledJoin j l = FitsShape j l × ShowsMap j l × LosesNothing j l
FitsBefore law.ReadJoin j l = FitsShape j l × ShowsMap j l × LosesNothing j l × JoinsReplicas j l

-- this is the first law that the line doesn't fit
pub record BreaksFirst (law : Law) (j : List Line) (l : Line) : Type 0 where
  pub before : FitsBefore law j l
  pub broken : ¬ FitsLaw law j l

-- an audit stops at the line for a reason
abbrev pub StopsRightly : Stop → List Line → Line → Type 0
StopsRightly stop.NoMemory j l = Unit {0}
StopsRightly (stop.Breaks law) j l = BreaksFirst law j l

-- what an audit answers where it stops at the line of this place
abbrev pub IsAnswer : Stop → ℕ → Verdict → Type 0
IsAnswer stop.NoMemory place answer = ⊥
IsAnswer (stop.Breaks law) place answer = answer ≡ verdict.Fails law (place + 1)
