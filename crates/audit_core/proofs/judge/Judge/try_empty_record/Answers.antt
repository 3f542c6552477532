use Rattle.std.proofs.Common.{arith}
use Rattle.std.proofs.lemmas.Result.{on_ok_weaker}
use Rattle.audit_core.proofs.EmptyLaws.{tries_absent, tries_other, tries_touched, stops_touched}
use Rattle.audit_core.proofs.PassLaws.{if_err_then}
use Rattle.audit_core.proofs.judge.Judge.try_empty_record.Goals as goal

pub returns-in_default-clause-ok : goal.returns-in_default-clause-ok
returns-in_default-clause-ok c = tries_absent c.args.master c.args.view c.args.number c.args.self.now c.partition.result c.partition.ensures c.in_default.is

pub returns-then-not-is_empty_for-clause-ok : goal.returns-then-not-is_empty_for-clause-ok
returns-then-not-is_empty_for-clause-ok c = tries_other c.args.master c.args.view c.args.number _ c.args.self.now c.partition.result c.is_empty_for.result c.partition.ensures c.in-Some.is c.is_empty_for.ensures (grind (arith, c.if-not-is_empty_for.true))

pub returns-clause-ok : goal.returns-clause-ok
returns-clause-ok c = on_ok_weaker c.touch.result (λ h. tries_touched c.args.master c.args.view c.args.number _ c.args.self.now c.touch.new.self c.partition.result c.partition.ensures c.in-Some.is h) c.touch.ensures.ok

pub returns-clause-err : goal.returns-clause-err
returns-clause-err c = if_err_then c.touch.result _ _ (λ e h. stops_touched c.args.self.now c.args.number _ e c.partition.result c.partition.ensures c.in-Some.is h) c.touch.ensures.err
