use Rattle.std.proofs.Common.{sym, ◌∙◌}
use Rattle.audit_core.proofs.LossChecks.{same_place, at_most_itself, at_most_there}
use Rattle.audit_core.proofs.judge.Judge.is_at_most.Goals as goal

pub returns-then-eq : goal.returns-then-eq
returns-then-eq c = at_most_itself c.args.self.now.by c.args.self.now.lines.now c.args.a c.args.b (same_place c.args.a c.args.b (sym c.eq.ensures ∙ c.if-eq.true))

pub returns : goal.returns
returns c = at_most_there c.args.self.now c.versions.result c.args.a c.args.b c.at_most.result c.versions.ensures.lines c.versions.ensures.policy c.at_most.ensures
