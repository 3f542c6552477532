use Rattle.std.proofs.Common.{◌≡◌, drop}
use Rattle.cluster_types.specs.StateRows.{state_of}
use Rattle.partition_state.proofs.copies.state_in.Given as goal

abbrev pub invariant-loop-copy : goal.invariant-loop-copy
invariant-loop-copy l = state_of l.copies l.n ≡ state_of (drop l.copy-index l.copies) l.n
