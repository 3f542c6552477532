use Rattle.std.proofs.Common.{◌≡◌, true, false, sym, subst, ◌∙◌}
use Rattle.cluster_types.specs.Members.{AreDistinctMembers}
use Rattle.world.proofs.ShowingLaws.{roles_distinct, roles_told}
use Rattle.world.proofs.showing.with_roles.Goals as goal

pub unreachable-requires : goal.unreachable-requires
unreachable-requires c =
    let told = roles_told c.args.members.now c.loop-id.placed.items c.args.ids.now c.loop-id.id-index c.loop-id-test.false c.loop-id.invariant in
    let wrong : false ≡ true = c.in-Err.ensures.valid.1 (subst AreDistinctMembers (sym (c.as_slice.ensures.value ∙ told)) (roles_distinct c.args.members.now c.args.ids.now c.requires)) in
    cc
