use Rattle.std.proofs.Common.{◌≡◌, ◌<◌, ◌+◌, length, Some, sym, ap, subst, ◌∙◌, arith}
use Rattle.std.specs.Prelude.{take, slice_get, IfOk}
use Rattle.std.proofs.lemmas.Result.{IfOk-weaker}
use Rattle.journal_lines.specs.declared.line.Line.{Line}
use Rattle.audit_laws.specs.Fits.{Fits}
use Rattle.audit_laws.proofs.Steps.{none_lawful}
use Rattle.audit_core.specs.Sees.{SeesJournal}
use Rattle.audit_core.specs.Verdicts.{IsAnswer, IsVerdict, StopsRightly}
use Rattle.audit_core.proofs.BareLaws.{sees_nothing}
use Rattle.audit_core.proofs.VerdictLaws.{answered, lawful_next, line_got}
use Rattle.audit_core.proofs.auditing.audit.Goals as goal

pub loop-i-init : goal.loop-i-init
loop-i-init c = record {
  lines = c.new-judge.ensures.lines;
  lawful = none_lawful;
  sees = sees_nothing c.as_slice-lines.result.now c.new-judge.result c.new-judge.ensures;
}

pub judge-requires-clause-stands : goal.judge-requires-clause-stands
judge-requires-clause-stands c =
    let within : c.loop-i.i < length c.as_slice-lines.result.now = omega arith in
    ap (λ ls. slice_get ls c.loop-i.i) c.loop-i.invariant.lines ∙ (line_got c.as_slice-lines.result.now c.loop-i.i c.index-lines-i.result within ∙ ap (λ (x : Line). Some x) (sym c.index-lines-i.is))

pub returns-in-Err : goal.returns-in-Err
returns-in-Err c =
    let within : c.loop-i.i < length c.as_slice-lines.result.now = omega arith in
    let stands : slice_get c.as_slice-lines.result.now c.loop-i.i ≡ Some c.index-lines-i.result = line_got c.as_slice-lines.result.now c.loop-i.i c.index-lines-i.result within ∙ ap (λ (x : Line). Some x) (sym c.index-lines-i.is) in
    let rightly : StopsRightly c.in-Err.stop (take c.loop-i.i c.as_slice-lines.result.now) c.index-lines-i.result = subst (λ ls. StopsRightly c.in-Err.stop (take c.loop-i.i ls) c.index-lines-i.result) c.loop-i.invariant.lines c.in-Err.ensures.breaks in
    subst (λ ls. IfOk c.answer.result (IsVerdict ls)) c.as_slice-lines.ensures.lines
    (IfOk-weaker c.answer.result (IsAnswer c.in-Err.stop c.loop-i.i) (IsVerdict c.as_slice-lines.result.now) (λ v a. answered c.in-Err.stop c.as_slice-lines.result.now c.loop-i.i c.index-lines-i.result v c.loop-i.invariant.lawful stands rightly a) c.answer.ensures)

pub loop-i-preserved : goal.loop-i-preserved
loop-i-preserved c =
    let within : c.loop-i.i < length c.as_slice-lines.result.now = omega arith in
    let stands : slice_get c.as_slice-lines.result.now c.loop-i.i ≡ Some c.index-lines-i.result = line_got c.as_slice-lines.result.now c.loop-i.i c.index-lines-i.result within ∙ ap (λ (x : Line). Some x) (sym c.index-lines-i.is) in
    record {
      lines = c.in-Ok.ensures.lines ∙ c.loop-i.invariant.lines;
      lawful = lawful_next c.as_slice-lines.result.now c.loop-i.i c.index-lines-i.result c.loop-i.invariant.lawful stands (subst (λ ls. Fits (take c.loop-i.i ls) c.index-lines-i.result) c.loop-i.invariant.lines c.in-Ok.ensures.fits);
      sees = subst (λ ls. SeesJournal c.judge.new.self (c.loop-i.i + 1) ls) c.loop-i.invariant.lines c.in-Ok.ensures.sees;
    }
