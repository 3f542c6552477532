use Rattle.std.proofs.Common.{rules, subst}
use Rattle.world.specs.Claims.{HasClaims}
use Rattle.world.proofs.world.World.step.Goals as goal

pub returns-clause-claims : goal.returns-clause-claims
returns-clause-claims c = subst HasClaims c.journal.ensures.lines c.journal.ensures.claims

pub take-answer-requires-clause-same : goal.take-answer-requires-clause-same
take-answer-requires-clause-same c = search rules

pub take-answer-requires-clause-comes : goal.take-answer-requires-clause-comes
take-answer-requires-clause-comes c = search rules

pub returns-clause-ok : goal.returns-clause-ok
returns-clause-ok c = search rules

pub returns-clause-within : goal.returns-clause-within
returns-clause-within c = search rules

pub returns-clause-too_long : goal.returns-clause-too_long
returns-clause-too_long c = search rules
