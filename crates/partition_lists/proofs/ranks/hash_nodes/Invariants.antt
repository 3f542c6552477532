use Rattle.std.proofs.Common.{◌≡◌, take}
use Rattle.partition_lists.specs.NodeStates.{node_states}
use Rattle.partition_lists.proofs.ranks.hash_nodes.Given as goal

abbrev pub invariant-loop-i : goal.invariant-loop-i
invariant-loop-i l = take l.i l.states ≡ node_states (take l.i l.members)
