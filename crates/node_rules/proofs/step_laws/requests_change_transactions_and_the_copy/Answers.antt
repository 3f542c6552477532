use Rattle.node_rules.proofs.PartLaws.{request_is, stop_is, start_is}
use Rattle.node_rules.proofs.step_laws.requests_change_transactions_and_the_copy.Goals as goal

pub returns : goal.returns
returns c = record { request = request_is; stop = stop_is; start = start_is }
