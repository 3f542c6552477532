use Rattle.std.proofs.Common.{◌≡◌, min}
use Rattle.sorted_chain.proofs.chain.shrink.Given as goal

abbrev pub invariant-loop-nodes : goal.invariant-loop-nodes
invariant-loop-nodes g l = record {
  len : min l.keep l.nodes.len ≡ min l.keep l.initial.nodes.len;
  handle : l.alloc ≡ l.nodes.boxes.alloc;
  alloc : l.nodes.boxes.alloc ≡ l.initial.nodes.boxes.alloc;
}

abbrev pub decreases-loop-nodes : goal.decreases-loop-nodes
decreases-loop-nodes g l = l.nodes.len
