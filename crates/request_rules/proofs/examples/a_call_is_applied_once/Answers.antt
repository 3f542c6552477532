use Rattle.request_rules.proofs.WorkedExamples.{applies}
use Rattle.request_rules.proofs.examples.a_call_is_applied_once.Goals as goal

pub returns-clause-applied : goal.returns-clause-applied
returns-clause-applied c = applies
