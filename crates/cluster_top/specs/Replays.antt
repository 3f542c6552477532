-- How a run ends whose words ask for a replay.
use Rattle.std.specs.Prelude.{◌≡◌, ℕ, ◌⊎◌, List, Option, Some, None}
use Rattle.script_lang.specs.Grammar.{script_of}
use Rattle.journal_lines.specs.declared.line.Line.{Line}
use Rattle.replay_core.specs.declared.status.Status.{Status}
use Rattle.replay_core.specs.declared.status.Status.TheVariants as status
use Rattle.replay_core.specs.Outcome.{Ended, EndsBySource, EndsScript, HadNoMore, HadScript, HadTooMuch}
use Rattle.cluster_top.specs.declared.words.Words.{Words}
use Rattle.cluster_top.specs.Generating.{generated}
use Rattle.cluster_top.specs.Transcripts.{transcript}

-- the bytes are those of the script that is replayed: the generated one, of which the source gives
-- nothing, or all that the source had left
abbrev pub HadScriptBy : Option ℕ → Option (List ℕ) → Option (List ℕ) → List ℕ → Type 0
HadScriptBy (Some n) had left bytes = (bytes ≡ generated n) × (left ≡ had)
HadScriptBy None had left bytes = HadScript had left bytes

-- a script may be too long that the source had left, and no generated one
abbrev pub HadTooMuchBy : Option ℕ → Option (List ℕ) → Option (List ℕ) → Type 0
HadTooMuchBy (Some n) had left = ⊥
HadTooMuchBy None had left = HadTooMuch had left

-- the source gave no more bytes than a script may have, and none where the script is a generated one
abbrev pub HadNoMoreBy : Option ℕ → Option (List ℕ) → Option (List ℕ) → Type 0
HadNoMoreBy (Some n) had left = left ≡ had
HadNoMoreBy None had left = HadNoMore had left

-- what each status says where the words ask for such a replay: of the journal, of what the source
-- had left and has left now, and of what the sink had taken and has taken now
abbrev pub ReplayEnded : Words → Status → List Line → Option (List ℕ) → Option (List ℕ)
    → Option (List ℕ) → Option (List ℕ) → Type 0
ReplayEnded words st journal had left old new =
    Ended (HadScriptBy words.generate had left) (HadTooMuchBy words.generate had left)
    (HadNoMoreBy words.generate had left) (transcript words) st journal old new

-- ---- what decides the status

-- by the script that is generated, or by what the source has left, where it tells that
abbrev pub EndsBy : Option ℕ → Option (List ℕ) → Status → Type 0
EndsBy (Some n) had st = EndsScript (script_of (generated n)) st
EndsBy None had st = EndsBySource had st

-- how a run ends where neither end has a fault: so, or memory was refused
abbrev pub IsDecided : Words → Option (List ℕ) → Status → Type 0
IsDecided words had st = EndsBy words.generate had st ⊎ (st ≡ status.NoMemory)
