use Rattle.std.proofs.Common.{All, arith, subst}
use Rattle.std.proofs.lemmas.List.{take_all}
use Rattle.wire_messages.specs.Nodes.{IsId}
use Rattle.partition_lists.proofs.ItemLaws.{one_more_fits}
use Rattle.node_steps.proofs.fields.ids_fit.Goals as goal

pub loop-node-preserved : goal.loop-node-preserved
loop-node-preserved c =
    one_more_fits IsId c.args.nodes.now c.loop-node.node-index c.node-item.result c.loop-node-test.true c.node-item.is c.loop-node.invariant c.id_fits.ensures

pub returns : goal.returns
returns c = subst (All IsId) (take_all c.loop-node.node-index c.args.nodes.now (omega (arith, c.loop-node-test.false))) c.loop-node.invariant
