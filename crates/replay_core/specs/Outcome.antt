-- How a run ends that replays a script.
use Rattle.std.specs.Prelude.{◌≡◌, ℕ, ◌≤◌, nat_lt, ◌⊎◌, Bool, true, false, List, [], ◌++◌, length, Option, IfSome, Result, Ok, Err}
use Rattle.script_lang.specs.declared.fault.Cause.{Cause}
use Rattle.script_lang.specs.declared.script.Script.{Script}
use Rattle.script_lang.specs.Grammar.{Fault, script_of}
use Rattle.script_lang.specs.Proper.{IsProper}
use Rattle.journal_lines.specs.declared.line.Line.{Line}
use Rattle.journal_text.specs.Journals.{IsWithin}
use Rattle.journal_text.specs.Text.{text}
use Rattle.cluster_rules.specs.Begun.{BegunRun}
use Rattle.cluster_rules.specs.FrontRuns.{FrontRun}
use Rattle.cluster_rules.specs.Opening.{header_lines}
use Rattle.cluster_rules.specs.Runs.{Run}
use Rattle.calm_laws.specs.Claims.{CalmsInTime}
use Rattle.world.specs.Claims.{HasClaims}
use Rattle.replay_core.specs.declared.status.Status.{Status}
use Rattle.replay_core.specs.declared.status.Status.TheVariants as status
use Rattle.replay_core.specs.declared.writing.WriteFault.{WriteFault}
use Rattle.replay_core.specs.declared.writing.WriteFault.TheVariants as writing
use Rattle.replay_core.specs.Streams.{GaveAtMost, HadAll, Overlong, WroteBytes, WroteFront, script_limit}

-- ---- where the script comes from

-- the bytes are all that the source had left, and as many as a script may have
abbrev pub HadScript : Option (List ℕ) → Option (List ℕ) → List ℕ → Type 0
HadScript had left bytes = HadAll had left bytes × (length bytes ≤ script_limit)

-- the source gave a byte more than a script may have
abbrev pub HadTooMuch : Option (List ℕ) → Option (List ℕ) → Type 0
HadTooMuch had left = IfSome had (λ bytes. Overlong script_limit bytes left)

-- the source gave no more bytes than a script may have
abbrev pub HadNoMore : Option (List ℕ) → Option (List ℕ) → Type 0
HadNoMore had left = GaveAtMost script_limit had left

-- ---- what was played
-- `IsScript` says of bytes that they are those of the script that is replayed.

-- the script was read whole, and this is its run, which fits in a journal
pub record Replayed (IsScript : List ℕ → Type 0) (journal : List Line) : Type 0 where
  pub bytes : List ℕ
  pub script : Script
  pub read : IsScript bytes
  pub parsed : script_of bytes ≡ Ok script
  pub proper : IsProper script
  pub played : Run script journal
  pub within : IsWithin journal

-- the run was begun, and the lines of the event that comes next don't fit behind those of the events
-- before it
pub record StopsBefore (script : Script) (journal : List Line) : Type 0 where
  pub next : List Line
  pub begun : BegunRun script journal next
  pub passes : ¬ IsWithin (journal ++ next)

-- there is no line, as those of the header alone don't fit
pub record StopsAtOnce (script : Script) (journal : List Line) : Type 0 where
  pub lines : journal ≡ []
  pub passes : ¬ IsWithin (header_lines script.header)

-- as much of the script's run as fits in a journal, event by event, and not all of it
abbrev pub IsCut : Script → List Line → Type 0
IsCut script journal = StopsAtOnce script journal ⊎ StopsBefore script journal

-- the script was read whole, and its run doesn't fit in a journal
pub record Outgrown (IsScript : List ℕ → Type 0) (journal : List Line) : Type 0 where
  pub bytes : List ℕ
  pub script : Script
  pub read : IsScript bytes
  pub parsed : script_of bytes ≡ Ok script
  pub proper : IsProper script
  pub cut : IsCut script journal
  pub within : IsWithin journal

-- the bytes were read whole, and are no script
pub record Misread (IsScript : List ℕ → Type 0) (line : ℕ) (cause : Cause) : Type 0 where
  pub bytes : List ℕ
  pub read : IsScript bytes
  pub bad : script_of bytes ≡ Err (record { line = line; cause = cause })

-- nothing was played, and nothing written
pub record Unplayed (journal : List Line) (old new : Option (List ℕ)) : Type 0 where
  pub empty : journal ≡ []
  pub unwritten : new ≡ old

-- the sink took a front of what is written of the script's run, which fits in a journal
pub record BrokeOff (IsScript : List ℕ → Type 0) (transcript : List Line → List ℕ)
    (old new : Option (List ℕ)) : Type 0 where
  pub journal : List Line
  pub replayed : Replayed IsScript journal
  pub front : WroteFront old new (transcript journal)

-- it took nothing, or such a front: so nothing of what is no script, nor of a run that doesn't fit
abbrev pub CutOff : (List ℕ → Type 0) → (List Line → List ℕ) → Option (List ℕ)
    → Option (List ℕ) → Type 0
CutOff IsScript transcript old new = (new ≡ old) ⊎ BrokeOff IsScript transcript old new

-- what each status says of a replay, by which bytes its script is, what too long a script shows of
-- the source, what one shows of it that isn't, and what is written of a journal: of the journal, and
-- of what the sink had taken and has taken now
abbrev pub Ended : (List ℕ → Type 0) → Type 0 → Type 0 → (List Line → List ℕ) → Status
    → List Line → Option (List ℕ) → Option (List ℕ) → Type 0
Ended IsScript IsTooLong IsShort transcript status.Done journal old new =
    Replayed IsScript journal × WroteBytes old new (transcript journal)
Ended IsScript IsTooLong IsShort transcript status.NoMemory journal old new =
    (journal ≡ []) × IsShort × CutOff IsScript transcript old new
Ended IsScript IsTooLong IsShort transcript status.BadWords journal old new = ⊥
Ended IsScript IsTooLong IsShort transcript (status.BadScript line cause) journal old new =
    Unplayed journal old new × Misread IsScript line cause
Ended IsScript IsTooLong IsShort transcript status.ReadFault journal old new =
    Unplayed journal old new × IsShort
Ended IsScript IsTooLong IsShort transcript status.WriteFault journal old new =
    Replayed IsScript journal × WroteFront old new (transcript journal)
Ended IsScript IsTooLong IsShort transcript status.ScriptTooLong journal old new =
    Unplayed journal old new × IsTooLong
Ended IsScript IsTooLong IsShort transcript status.RunTooLong journal old new =
    (new ≡ old) × Outgrown IsScript journal
Ended IsScript IsTooLong IsShort transcript status.TranscriptTooLong journal old new = ⊥
Ended IsScript IsTooLong IsShort transcript (status.BadTranscript line) journal old new = ⊥
Ended IsScript IsTooLong IsShort transcript (status.Refuted law line) journal old new = ⊥

-- what each status says where the script is what a source had left, and the journal's text is
-- written: also of what the source had left and has left now
abbrev pub SourceEnded : Status → List Line → Option (List ℕ) → Option (List ℕ)
    → Option (List ℕ) → Option (List ℕ) → Type 0
SourceEnded st journal had left old new =
    Ended (HadScript had left) (HadTooMuch had left) (HadNoMore had left) text st journal old new

-- with these statuses nothing is pushed to the sink: neither bytes of a run nor of a verdict
abbrev pub PushesNothing : Status → Type 0
PushesNothing status.Done = ⊥
PushesNothing status.NoMemory = ⊥
PushesNothing status.WriteFault = ⊥
PushesNothing (status.Refuted law line) = ⊥
PushesNothing _ = Unit {0}

-- ---- what a replay leaves

-- how it ended, and the lines of its journal
pub record ReplayEnd : Type 0 where
  pub status : Status
  pub lines : List Line

-- wherever the run of a proper script that has this journal begins rounds of calm, they are in time
abbrev pub CalmsAreInTime : List Line → Type 0
CalmsAreInTime journal = (script : Script) → IsProper script → (r : FrontRun script journal)
    → CalmsInTime script.header r.taken

-- what holds of the journal of every replay, however it ended
pub record HasAllClaims (journal : List Line) : Type 0 where
  pub claims : HasClaims journal
  pub calms : CalmsAreInTime journal

-- ---- on the way

-- what each status says of the play of the script that the bytes are, of which nothing was written
abbrev pub PlayEnded : List ℕ → Status → List Line → Type 0
PlayEnded bytes status.Done journal = Replayed (λ it. it ≡ bytes) journal
PlayEnded bytes status.NoMemory journal = journal ≡ []
PlayEnded bytes (status.BadScript line cause) journal =
    (journal ≡ []) × Misread (λ it. it ≡ bytes) line cause
PlayEnded bytes status.RunTooLong journal = Outgrown (λ it. it ≡ bytes) journal
PlayEnded bytes _ journal = ⊥

-- how a run ends of which all was played, and whose writing ended so
abbrev pub status_after_writing : Result (Unit {0}) WriteFault → Status
status_after_writing (Ok done) = status.Done
status_after_writing (Err writing.NoMemory) = status.NoMemory
status_after_writing (Err writing.Sink) = status.WriteFault

-- what was written of a text where that ended so: nothing else can have come between
abbrev pub WritingEnded : Status → Option (List ℕ) → Option (List ℕ) → List ℕ → Type 0
WritingEnded status.Done old new bytes = WroteBytes old new bytes
WritingEnded status.NoMemory old new bytes = WroteFront old new bytes
WritingEnded status.WriteFault old new bytes = WroteFront old new bytes
WritingEnded _ old new bytes = ⊥

-- ---- what decides the status

-- the script's run fits in a journal
pub record FitsWhole (script : Script) : Type 0 where
  pub journal : List Line
  pub played : Run script journal
  pub within : IsWithin journal

-- Done exactly where the script's run fits in a journal, and otherwise RunTooLong
abbrev pub EndsRun : Script → Status → Type 0
EndsRun script status.Done = FitsWhole script
EndsRun script status.RunTooLong = ¬ FitsWhole script
EndsRun script _ = ⊥

-- BadScript with the first bad line and its first cause exactly where the bytes are no script
abbrev pub EndsScript : Result Script Fault → Status → Type 0
EndsScript (Ok script) st = EndsRun script st
EndsScript (Err fault) st = st ≡ status.BadScript fault.line fault.cause

-- ScriptTooLong where the test says that there are more bytes than a script has
abbrev pub EndsBytes : Bool → List ℕ → Status → Type 0
EndsBytes true bytes st = st ≡ status.ScriptTooLong
EndsBytes false bytes st = EndsScript (script_of bytes) st

-- by what the source has left, where it tells that
abbrev pub EndsBySource : Option (List ℕ) → Status → Type 0
EndsBySource had st =
    IfSome had (λ bytes. EndsBytes (nat_lt script_limit (length bytes)) bytes st)

-- how a run ends where neither end has a fault: so, or memory was refused
abbrev pub IsSourceDecided : Option (List ℕ) → Status → Type 0
IsSourceDecided had st = EndsBySource had st ⊎ (st ≡ status.NoMemory)
