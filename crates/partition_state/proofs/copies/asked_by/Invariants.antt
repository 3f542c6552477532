use Rattle.std.proofs.Common.{◌≡◌, ◌&&◌, not, take}
use Rattle.std.specs.Prelude.{filter}
use Rattle.cluster_types.specs.StateRows.{state_of}
use Rattle.partition_lists.specs.Classes.{is_first_by, same_class_by}
use Rattle.partition_state.proofs.copies.asked_by.Given as goal

abbrev pub invariant-loop-n : goal.invariant-loop-n
invariant-loop-n l = l.asked ≡ filter (λ n. is_first_by l.nodes (state_of l.copies) n && not (same_class_by (state_of l.copies) l.by n)) (take l.n-index l.nodes)
