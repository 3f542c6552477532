use Rattle.std.proofs.Common.{sym, ◌∙◌, arith}
use Rattle.std.proofs.lemmas.Result.{on_ok_weaker}
use Rattle.audit_core.proofs.TouchLaws.{present_none, present_other, present_touched}
use Rattle.audit_core.proofs.judge.Judge.touch_at.Goals as goal

pub returns-in-None-clause-ok : goal.returns-in-None-clause-ok
returns-in-None-clause-ok c = present_none c.args.self.now _ _ c.args.number c.args.p (sym c.present_view.ensures ∙ c.in-None.is)

pub returns-then-is_key-clause-ok : goal.returns-then-is_key-clause-ok
returns-then-is_key-clause-ok c = present_other c.args.self.now _ c.args.other c.args.number c.args.p c.in-Some.view (sym c.present_view.ensures ∙ c.in-Some.is) (c.is_key.ensures.0 (grind (arith, c.if-is_key.true)))

pub returns-else-is_key-clause-ok : goal.returns-else-is_key-clause-ok
returns-else-is_key-clause-ok c = on_ok_weaker c.touch.result (λ tries. present_touched c.args.self.now c.touch.new.self _ c.args.other c.args.number c.args.p c.in-Some.view (sym c.present_view.ensures ∙ c.in-Some.is) tries) c.touch.ensures.ok
