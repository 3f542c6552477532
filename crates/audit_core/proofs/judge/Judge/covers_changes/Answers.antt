use Rattle.std.proofs.Common.{◌≡◌, ◌≤◌, true, false, sym, ◌∙◌, arith}
use Rattle.audit_core.specs.Replicas.{covers_change}
use Rattle.audit_core.proofs.CoverageLaws.{passed_next, covered_all, uncovered_at}
use Rattle.audit_core.proofs.judge.Judge.covers_changes.Goals as goal

pub loop-i-init : goal.loop-i-init
loop-i-init c = λ a low high. absurd (omega (arith, low, high))

pub loop-i-preserved : goal.loop-i-preserved
loop-i-preserved c =
    let on : c.covers_change.result ≡ true = grind (arith, c.if-not-covers_change.false) in
    passed_next (covers_change c.args.self.now c.args.node c.args.member c.args.of) _ _ c.loop-i.i c.loop-i.invariant (sym c.covers_change.ensures ∙ on)

pub returns-then-not-covers_change : goal.returns-then-not-covers_change
returns-then-not-covers_change c =
    let off : c.covers_change.result ≡ false = grind (arith, c.if-not-covers_change.true) in
    uncovered_at c.args.self.now c.args.node c.args.member c.args.of c.args.from c.args.to c.loop-i.i _ c.covers_change.result c.covers_change.ensures off

pub returns : goal.returns
returns c =
    let done : c.first_change-last.result ≤ c.loop-i.i = omega (arith, c.loop-i-test.false) in
    covered_all c.args.self.now c.args.node c.args.member c.args.of _ _ _ _ c.loop-i.i _ c.first_change-first.ensures.point c.first_change-last.ensures.point done c.loop-i.invariant
