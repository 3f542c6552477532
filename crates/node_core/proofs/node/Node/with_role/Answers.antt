use Rattle.std.proofs.Common.{◌<◌, ◌^◌, All, arith, subst}
use Rattle.wire_messages.specs.Nodes.{IsId}
use Rattle.node_core.proofs.NewLaws.{that_is_new}
use Rattle.node_core.proofs.node.Node.with_role.Goals as goal

pub invariant_of-result : goal.invariant_of-result
invariant_of-result c =
    let rack : c.args.role.rack < 2 ^ 8 = omega arith in
    let ids : All IsId c.args.peers = subst (All IsId) c.as_slice.ensures.same c.ids_fit.ensures in
    rw (c.in_order.ensures, c.new.ensures, c.restart.ensures)
    (that_is_new c.args.me c.args.role c.args.peers c.args.factor c.args.by c.in_ok-with_policy.field-0 c.new-2.result c.requires.peers c.requires.factor c.id_fits.ensures ids rack c.in_ok-with_policy.ensures)
