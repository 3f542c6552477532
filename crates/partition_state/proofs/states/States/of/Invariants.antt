use Rattle.std.proofs.Common.{◌≡◌, take}
use Rattle.partition_state.specs.Copies.{copies_at}
use Rattle.partition_state.proofs.states.States.of.Given as goal

abbrev pub invariant-loop-row : goal.invariant-loop-row
invariant-loop-row l = l.states ≡ copies_at (take l.row-index l.rows) l.p
