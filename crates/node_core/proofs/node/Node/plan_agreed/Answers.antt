use Rattle.std.proofs.Common.{ap, subst, sym, ◌∙◌}
use Rattle.clustering.specs.Agreeing.{Agreeing}
use Rattle.node_rules.specs.Steps.{planning}
use Rattle.node_steps.specs.Ranges.{HasRanges}
use Rattle.node_core.proofs.node.Node.plan_agreed.Goals as goal

pub plan-requires-clause-fits : goal.plan-requires-clause-fits
plan-requires-clause-fits c = record { agree_of = ap (λ (a : Agreeing). a.me) c.in_ok-agree.ensures.ok ∙ c.requires.agree_of; view = λ v e. cc }

pub plan-requires-clause-ranges : goal.plan-requires-clause-ranges
plan-requires-clause-ranges c = subst (λ (a : Agreeing). HasRanges (record c.args.self.now.now { agreement = a.agreement })) (sym c.in_ok-agree.ensures.ok) c.requires.ranges

pub returns-clause-planned : goal.returns-clause-planned
returns-clause-planned c = c.plan.ensures.planned ∙ ap (λ (a : Agreeing). planning c.args.self.now.now (record c.args.self.now.now { agreement = a.agreement })) c.in_ok-agree.ensures.ok
