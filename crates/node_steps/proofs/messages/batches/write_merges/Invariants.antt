use Rattle.std.proofs.Common.{◌≡◌, ◌++◌, map, take}
use Rattle.node_rules.specs.Messages.{merge_line}
use Rattle.node_steps.proofs.messages.batches.write_merges.Given as goal

-- so far the lines of the first records
abbrev pub invariant-loop-i : goal.invariant-loop-i
invariant-loop-i l = l.lines ≡ l.initial.lines ++ map (merge_line l.node l.key) (take l.i l.records)
