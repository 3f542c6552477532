use Rattle.std.proofs.lemmas.Result.{on_ok_weaker}
use Rattle.audit_core.proofs.EmptyLaws.{empties_none, empties_one}
use Rattle.audit_core.proofs.judge.Judge.try_item.Goals as goal

pub returns-in_default-clause-ok : goal.returns-in_default-clause-ok
returns-in_default-clause-ok c = empties_none c.args.master c.args.view c.args.number c.args.self.now c.in_default.is

pub returns-clause-ok : goal.returns-clause-ok
returns-clause-ok c = on_ok_weaker c.try_empty_record.result (λ h. empties_one c.args.master c.args.view _ c.args.number c.args.self.now c.try_empty_record.new.self c.in-Some.is h) c.try_empty_record.ensures.ok
