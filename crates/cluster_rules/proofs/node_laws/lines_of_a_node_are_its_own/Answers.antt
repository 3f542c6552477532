use Rattle.cluster_rules.proofs.OwnLines.{tick_own, message_own, request_own, stop_own, start_own}
use Rattle.cluster_rules.proofs.node_laws.lines_of_a_node_are_its_own.Goals as goal

pub returns : goal.returns
returns c = record { tick = tick_own; message = message_own; request = request_own; stop = stop_own; start = start_own }
