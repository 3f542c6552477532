use Rattle.std.proofs.Common.{◌≡◌, true, take}
use Rattle.std.specs.List.{list_all}
use Rattle.partition_state.specs.Copies.{is_copy_at_most}
use Rattle.partition_state.proofs.copies.greatest_key.Given as goal

abbrev pub invariant-loop-copy : goal.invariant-loop-copy
invariant-loop-copy l = list_all (is_copy_at_most l.greatest) (take l.copy-index l.copies) ≡ true
