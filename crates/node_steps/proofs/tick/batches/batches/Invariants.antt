use Rattle.std.proofs.Common.{◌≡◌, ◌++◌, All, map}
use Rattle.wire_messages.specs.Proper.{IsBatch}
use Rattle.node_steps.specs.Spelled.{with_sends}
use Rattle.node_steps.proofs.AgainLaws.{batch_spelled}
use Rattle.node_steps.proofs.tick.batches.batches.Given as goal

-- what was sent and what is left are all that is sent, and what is left has a spelling
abbrev pub invariant-loop-to : goal.invariant-loop-to
invariant-loop-to l =
    (with_sends l.out (map batch_spelled l.to-iterator.rest.items) ≡ with_sends l.initial.out (map batch_spelled l.initial.to-iterator.rest.items))
    × (l.sent.items ++ l.to-iterator.rest.items ≡ l.initial.sent.items ++ l.initial.to-iterator.rest.items)
    × All (λ b. IsBatch b.1) l.to-iterator.rest.items
