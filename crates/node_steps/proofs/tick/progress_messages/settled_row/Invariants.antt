use Rattle.std.proofs.Common.{◌≡◌, fold, take}
use Rattle.std.specs.Prelude.{if◌then◌else◌}
use Rattle.node_rules.specs.Bits.{with_bit}
use Rattle.node_steps.proofs.tick.progress_messages.settled_row.Given as goal

-- the row with the bits of the first partitions
abbrev pub invariant-loop-settling : goal.invariant-loop-settling
invariant-loop-settling l = l.row ≡ fold (λ row s. if s.settles then with_bit row s.partition else row) l.view.bits.settled (take l.settling-index l.settlings)
