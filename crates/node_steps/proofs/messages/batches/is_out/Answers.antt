use Rattle.std.proofs.Common.{rules}
use Rattle.node_steps.proofs.messages.batches.is_out.Goals as goal

pub returns-in-Some : goal.returns-in-Some
returns-in-Some c = search rules
