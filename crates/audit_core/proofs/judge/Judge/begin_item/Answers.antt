use Rattle.std.proofs.Common.{◌+◌}
use Rattle.std.proofs.lemmas.Result.{on_ok_weaker}
use Rattle.audit_core.proofs.BeginLaws.{begins_none, begins_one}
use Rattle.audit_core.proofs.judge.Judge.begin_item.Goals as goal

pub returns-in_default-clause-ok : goal.returns-in_default-clause-ok
returns-in_default-clause-ok c = begins_none (c.args.line + 1) c.args.view c.args.p c.args.self.now c.in_default.is

pub returns-clause-ok : goal.returns-clause-ok
returns-clause-ok c = on_ok_weaker c.begin.result (λ h. begins_one (c.args.line + 1) c.args.view _ c.args.p c.args.self.now c.begin.new.self c.in-Some.is h) c.begin.ensures.ok
