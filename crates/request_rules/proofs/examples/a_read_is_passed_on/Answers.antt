use Rattle.request_rules.proofs.WorkedExamples.{passes, takes, ends}
use Rattle.request_rules.proofs.examples.a_read_is_passed_on.Goals as goal

pub returns-clause-passed : goal.returns-clause-passed
returns-clause-passed c = passes

pub returns-clause-taken : goal.returns-clause-taken
returns-clause-taken c = takes

pub returns-clause-ended : goal.returns-clause-ended
returns-clause-ended c = ends
