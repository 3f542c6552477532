use Rattle.std.proofs.Common.{◌≡◌, drop}
use Rattle.std.specs.Prelude.{find}
use Rattle.cluster_types.specs.StateRows.{state_of}
use Rattle.partition_lists.specs.Classes.{same_class_by}
use Rattle.partition_state.proofs.copies.class_first.Given as goal

abbrev pub invariant-loop-other : goal.invariant-loop-other
invariant-loop-other l = find (same_class_by (state_of l.copies) l.n) l.nodes ≡ find (same_class_by (state_of l.copies) l.n) (drop l.other-index l.nodes)
