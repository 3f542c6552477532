-- What the functions that read a script answer.
use Rattle.std.specs.Prelude.{◌≡◌, ℕ, ◌<◌, ◌==◌, List, length, Result, Ok, Err, IsOk, ⊤}
use Rattle.std.specs.List.{before_first, after_first, position_or_len}
use Rattle.script_lang.specs.declared.fault.Cause.{Cause}
use Rattle.script_lang.specs.declared.fault.Cause.TheVariants.{BadGroups}
use Rattle.script_lang.specs.declared.fault.LineFault.{LineFault}
use Rattle.script_lang.specs.declared.fault.LineFault.TheVariants as line_fault
use Rattle.script_lang.specs.declared.fault.ScriptFault.{ScriptFault}
use Rattle.script_lang.specs.declared.fault.ScriptFault.TheVariants.{At, NoMemory}
use Rattle.script_lang.specs.declared.lines.Line.{Line}
use Rattle.script_lang.specs.declared.lines.Line.TheVariants as line
use Rattle.script_lang.specs.declared.script.Script.{Script}
use Rattle.script_lang.specs.Before.{MayDeclare, nodes_of}
use Rattle.script_lang.specs.Forms.{are_whole}
use Rattle.script_lang.specs.Grammar.{Fault}
use Rattle.script_lang.specs.Headers.{IsProperHeaderLine}
use Rattle.script_lang.specs.Outcomes.{ok_if}

-- the fault is the one for which the grammar refuses, unless memory ran out
abbrev pub Refuses : {Y : Type 0} → Result Y Fault → ScriptFault → Type 0
Refuses read (At line cause) = read ≡ Err (record { line = line; cause = cause })
Refuses read NoMemory = ⊤

-- the outcome is the one that is due; memory is refused only where a value is due, and so never in place of a cause
abbrev pub ReadsOutcome : {Y : Type 0} → Result Y LineFault → Result Y Cause → Type 0
ReadsOutcome (Ok said) due = due ≡ Ok said
ReadsOutcome (Err (line_fault.Bad cause)) due = due ≡ Err cause
ReadsOutcome (Err line_fault.NoMemory) due = IsOk due

-- the line is good, and isn't passed over
abbrev pub SaysSomething : Result Line Cause → Type 0
SaysSomething (Ok line.Nothing) = ⊥
SaysSomething (Ok (line.Header said)) = ⊤
SaysSomething (Ok (line.Command said)) = ⊤
SaysSomething (Err cause) = ⊥

-- the line says what is due; memory is refused only where it says something, and so neither for a bad line nor for one
-- that is passed over
abbrev pub ReadsLine : Result Line LineFault → Result Line Cause → Type 0
ReadsLine (Ok said) due = due ≡ Ok said
ReadsLine (Err (line_fault.Bad cause)) due = due ≡ Err cause
ReadsLine (Err line_fault.NoMemory) due = SaysSomething due

-- a line's fault as that of the script
abbrev pub fault_at : ℕ → LineFault → ScriptFault
fault_at line (line_fault.Bad cause) = At line cause
fault_at line line_fault.NoMemory = NoMemory

-- ids that could be read are put into groups, where these are whole
abbrev pub GroupsIds : List ℕ → Result (List (List ℕ)) Cause → Result (List (List ℕ)) Cause
    → Type 0
GroupsIds nodes result read =
    (lists : List (List ℕ)) → read ≡ Ok lists
    → ok_if (are_whole nodes lists) lists BadGroups ≡ result

-- the fault is that of a script whose line of that number is so read; memory is refused only where that line says something
abbrev pub RefusesAt : ℕ → Result Line Cause → ScriptFault → Type 0
RefusesAt line due (At place cause) = (place ≡ line) × (due ≡ Err cause)
RefusesAt line due NoMemory = SaysSomething due

-- what a line says may be added: a header line keeps its ranges, and a node that it declares isn't declared yet
abbrev pub MayAdd : Script → Line → Type 0
MayAdd script line.Nothing = ⊤
MayAdd script (line.Header said) =
    MayDeclare (nodes_of script.header) said × IsProperHeaderLine said
MayAdd script (line.Command said) = ⊤

-- a text is cut at the first such byte
pub record CutAt (byte : ℕ) (text before behind : List ℕ) : Type 0 where
  pub within : position_or_len (λ b. b == byte) text < length text
  pub front : before ≡ before_first (λ b. b == byte) text
  pub back : behind ≡ after_first (λ b. b == byte) text
