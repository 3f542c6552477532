-- What the process that ran shows of how the run ended.
use Rattle.std.specs.Prelude.{ℕ, List, [], ◌++◌, codes}
use Rattle.std.specs.Fmt.{decimal}
use Rattle.script_lang.specs.Causes.{cause_name}
use Rattle.replay_core.specs.declared.status.Status.{Status}
use Rattle.replay_core.specs.declared.status.Status.TheVariants as status

-- the code with which the process ends
abbrev pub code_of : Status → ℕ
code_of status.Done = 0
code_of status.NoMemory = 1
code_of status.BadWords = 2
code_of (status.BadScript line cause) = 3
code_of status.ReadFault = 4
code_of status.WriteFault = 5
code_of status.ScriptTooLong = 6
code_of status.RunTooLong = 7
code_of status.TranscriptTooLong = 8
code_of (status.BadTranscript line) = 9
code_of (status.Refuted law line) = 10

-- what stands on standard error, without its line feed
abbrev pub fault_of : Status → List ℕ
fault_of status.Done = []
fault_of status.NoMemory = codes "no memory"
fault_of status.BadWords = codes "bad words"
fault_of (status.BadScript line cause) =
    codes "line " ++ decimal line ++ codes ": " ++ cause_name cause
fault_of status.ReadFault = codes "read fault"
fault_of status.WriteFault = codes "write fault"
fault_of status.ScriptTooLong = codes "script too long"
fault_of status.RunTooLong = codes "run too long"
fault_of status.TranscriptTooLong = codes "transcript too long"
fault_of (status.BadTranscript line) =
    codes "line " ++ decimal line ++ codes ": not a transcript"
fault_of (status.Refuted law line) = codes "refuted"
