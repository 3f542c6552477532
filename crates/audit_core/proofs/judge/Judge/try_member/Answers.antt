use Rattle.std.proofs.Common.{arith}
use Rattle.std.proofs.lemmas.Result.{on_ok_weaker}
use Rattle.audit_core.proofs.EmptyLaws.{member_apart, member_here}
use Rattle.audit_core.proofs.judge.Judge.try_member.Goals as goal

pub returns-then-not-is_in_view-clause-ok : goal.returns-then-not-is_in_view-clause-ok
returns-then-not-is_in_view-clause-ok c = member_apart c.args.master c.args.view c.args.node c.args.self.now c.is_in_view.result c.is_in_view.ensures (grind (arith, c.if-not-is_in_view.true))

pub returns-clause-ok : goal.returns-clause-ok
returns-clause-ok c = on_ok_weaker c.try_stay.result (λ h. member_here c.args.master c.args.view c.args.node c.args.self.now c.try_stay.new.self c.is_in_view.result c.is_in_view.ensures (grind (arith, c.if-not-is_in_view.false)) h) c.try_stay.ensures.ok
