use Rattle.std.proofs.Common.{◌≡◌, ◌≤◌, ◌-◌, length}
use Rattle.sorted_chain.specs.Nodes.{pays, entries, HasPassed, IsBefore}
use Rattle.sorted_chain.specs.Marks.{key_front, IsTwentyBytes}
use Rattle.sorted_chain.proofs.marks.Marks.seek.Given as goal

-- the keys before `low` are below the one that is sought, and those from `high` on above it
abbrev pub invariant-loop-low : goal.invariant-loop-low
invariant-loop-low g l = let es = entries (pays l.nodes.boxes.items) in record {
  order : l.low ≤ l.high;
  within : l.high ≤ length es;
  passed : HasPassed l.k es l.low;
  above : IsBefore l.k es l.high;
  key : IsTwentyBytes l.k;
  front : l.front ≡ key_front l.k;
}

abbrev pub decreases-loop-low : goal.decreases-loop-low
decreases-loop-low g l = l.high - l.low
