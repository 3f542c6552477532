use Rattle.std.proofs.Common.{rules}
use Rattle.partition_state.proofs.states.States.sends.Goals as goal

pub returns-then-is_first : goal.returns-then-is_first
returns-then-is_first c = search rules
