use Rattle.std.proofs.Common.{rules}
use Rattle.node_steps.proofs.messages.states.state_effects.Goals as goal

pub returns : goal.returns
returns c = search rules
