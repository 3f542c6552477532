use Rattle.std.proofs.Common.{◌≡◌, drop}
use Rattle.std.specs.Prelude.{find}
use Rattle.cluster_types.specs.StateRows.{state_of}
use Rattle.partition_lists.specs.Acting.{is_wholest_by}
use Rattle.partition_state.proofs.copies.first_of_wholest.Given as goal

abbrev pub invariant-loop-n : goal.invariant-loop-n
invariant-loop-n l = find (is_wholest_by l.nodes (state_of l.copies)) l.nodes ≡ find (is_wholest_by l.nodes (state_of l.copies)) (drop l.n-index l.nodes)
