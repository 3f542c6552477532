use Rattle.std.proofs.Common.{arith}
use Rattle.std.proofs.lemmas.Bool.Decides.{nat_tests}
use Rattle.std.proofs.lemmas.Grind.{common_steps}
use Rattle.audit_core.proofs.FinishLaws.{suspect_elsewhere}
use Rattle.audit_core.proofs.judge.Judge.try_suspect.Goals as goal

pub returns-then-ne-clause-ok : goal.returns-then-ne-clause-ok
returns-then-ne-clause-ok c =
    suspect_elsewhere c.args.self.now c.args.view c.args.number c.args.p
    (λ e. grind (arith, nat_tests, common_steps, c.if-ne.ensures, c.partition.ensures, e))
