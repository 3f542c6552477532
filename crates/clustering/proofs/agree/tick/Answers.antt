use Rattle.std.proofs.Common.{rules}
use Rattle.clustering.proofs.agree.tick.Goals as goal

pub returns-in-Proposing-clause-agree : goal.returns-in-Proposing-clause-agree
returns-in-Proposing-clause-agree c = search rules

pub returns-in-Proposing-clause-answer : goal.returns-in-Proposing-clause-answer
returns-in-Proposing-clause-answer c = search rules

pub returns-in_default-clause-agree : goal.returns-in_default-clause-agree
returns-in_default-clause-agree c = search rules

pub returns-in_default-clause-answer : goal.returns-in_default-clause-answer
returns-in_default-clause-answer c = search rules
