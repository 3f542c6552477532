use Rattle.std.proofs.Common.{All, take}
use Rattle.wire_messages.specs.Nodes.{IsId}
use Rattle.node_steps.proofs.fields.ids_fit.Given as goal

-- the nodes so far have ids that have a spelling
abbrev pub invariant-loop-node : goal.invariant-loop-node
invariant-loop-node l = All IsId (take l.node-index l.nodes)
