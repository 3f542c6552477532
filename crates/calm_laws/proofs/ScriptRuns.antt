-- Calms that a proper script's run begins are in time.
use Rattle.std.proofs.Common.{◌≡◌, ◌+◌, ◌<◌, List, ◌++◌, length, sym, ap, subst, ◌∙◌, append_assoc, arith, length-append}
use Rattle.journal_lines.specs.declared.line.Line.{Line}
use Rattle.script_lang.specs.declared.script.Script.{Script}
use Rattle.script_lang.specs.Proper.{IsProper}
use Rattle.cluster_rules.specs.FrontRuns.{FrontRun}
use Rattle.cluster_rules.specs.Opening.{header_lines}
use Rattle.cluster_rules.specs.Steps.{Step, all_lines}
use Rattle.run_laws.specs.Taken.{Taken, line_bound}
use Rattle.run_laws.proofs.EveryJournal.{taken_of_front}
use Rattle.calm_laws.specs.Claims.{MayComeIn, ScriptsCalmInTime}
use Rattle.calm_laws.proofs.Onward.{front_lines, taken_front}
use Rattle.calm_laws.proofs.Runs.{begun_in_time}

may_come : (s : Script) (lines : List Line) (r : FrontRun s lines) → IsProper s → length lines + 1 < line_bound → (ss more others : List Step) → r.taken ≡ ss ++ (more ++ others) → MayComeIn s.header ss more
may_come s lines r p room ss more others e = record {
  taken = taken_front s.header ss (more ++ others) (subst (λ (us : List Step). Taken s.header us) e (taken_of_front s lines r p (omega (arith, room))));
  room = omega (
    arith,
    room,
    ap length r.written,
    length-append (header_lines s.header) (all_lines r.taken),
    ap (λ (us : List Step). length (all_lines us)) (e ∙ sym (append_assoc ss more others)),
    front_lines (ss ++ more) others,
  );
}

pub scripts_calm_in_time : ScriptsCalmInTime
scripts_calm_in_time s p lines r room ss others x b e = begun_in_time s.header ss x b (may_come s lines r p room ss x.steps others e)
