use Rattle.std.proofs.Common.{refl, rules, arith}
use Rattle.audit_core.proofs.FinishLaws.{suspects_none, suspects_next, suspects_all}
use Rattle.audit_core.proofs.judge.Judge.try_suspects.Goals as goal

pub loop-number-init : goal.loop-number-init
loop-number-init c = suspects_none c.args.self.now c.args.view c.args.p _ refl

pub loop-number-preserved : goal.loop-number-preserved
loop-number-preserved c =
    suspects_next c.args.self.now c.args.view c.args.p c.args.numbers.now c.loop-number.number-index
    _ c.loop-number-test.true (search rules) c.loop-number.invariant c.in_ok-try_suspect.ensures.ok

pub returns-clause-ok : goal.returns-clause-ok
returns-clause-ok c =
    suspects_all c.args.self.now c.args.view c.args.p c.args.numbers.now c.loop-number.number-index
    (omega (arith, c.loop-number-test.false)) c.loop-number.invariant
