use Rattle.std.proofs.Common.{◌≡◌, drop}
use Rattle.std.specs.Prelude.{find}
use Rattle.cluster_types.specs.StateRows.{state_of}
use Rattle.partition_state.specs.Copies.{is_under}
use Rattle.partition_state.proofs.copies.first_under.Given as goal

abbrev pub invariant-loop-n : goal.invariant-loop-n
invariant-loop-n l = find (is_under l.key (state_of l.copies)) l.nodes ≡ find (is_under l.key (state_of l.copies)) (drop l.n-index l.nodes)
