use Rattle.std.proofs.Common.{rules}
use Rattle.clustering.proofs.agree.Agree.on_accept.Goals as goal

pub returns-in-Proposing-clause-agree : goal.returns-in-Proposing-clause-agree
returns-in-Proposing-clause-agree c = search rules

pub returns-in-Proposing-clause-answer : goal.returns-in-Proposing-clause-answer
returns-in-Proposing-clause-answer c = search rules
