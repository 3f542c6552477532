use Rattle.cluster_rules.proofs.RequestWalk.{passed, taken_up, ended, proxied}
use Rattle.cluster_rules.proofs.request_laws.a_read_goes_between_two_nodes.Goals as goal

pub returns-clause-passed : goal.returns-clause-passed
returns-clause-passed c = passed

pub returns-clause-taken_up : goal.returns-clause-taken_up
returns-clause-taken_up c = taken_up

pub returns-clause-ended : goal.returns-clause-ended
returns-clause-ended c = ended

pub returns-clause-proxied : goal.returns-clause-proxied
returns-clause-proxied c = proxied
