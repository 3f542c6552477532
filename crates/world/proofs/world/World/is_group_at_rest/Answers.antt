use Rattle.std.proofs.Common.{ap, sym, ◌∙◌, arith, length, length-take}
use Rattle.std.specs.List.{list_all}
use Rattle.cluster_types.specs.declared.member.Member.{Member}
use Rattle.node_rules.specs.Facts.{view_key}
use Rattle.cluster_rules.specs.Calm.{as_members}
use Rattle.cluster_rules.specs.World.{members_now}
use Rattle.world.specs.Calmness.{rests_in}
use Rattle.world.specs.Steps.{standing}
use Rattle.world.proofs.CalmLaws.{as_members_are, group_rests}
use Rattle.world.proofs.KeepLaws.{fits_of}
use Rattle.world.proofs.UpLaws.{falling_known, falling_long, first_known, first_of_list, key_of_view}
use Rattle.world.proofs.world.World.is_group_at_rest.Goals as goal

pub node-requires : goal.node-requires
node-requires c = first_known c.args.self.now c.args.group.now c.up_among-up.result c.in-Some.first.now (fits_of c.self.inside c.args.self.now c.self.view_is c.self.invariant).taken c.up_among-up.ensures c.in-Some.ensures

pub write_members-requires-clause-declared : goal.write_members-requires-clause-declared
write_members-requires-clause-declared c = falling_known c.args.self.now c.args.group.now c.up_among-up.result c.as_slice.result.now (fits_of c.self.inside c.args.self.now c.self.view_is c.self.invariant).taken c.up_among-up.ensures (c.as_slice.ensures.same ∙ c.falling.ensures)

pub write_members-requires-clause-size : goal.write_members-requires-clause-size
write_members-requires-clause-size c =
    omega (arith, c.len.ensures.value, c.len.ensures.limit, ap length (c.as_slice.ensures.same ∙ c.falling.ensures), falling_long c.up_among-up.result, length-take {A = Member})

pub returns : goal.returns
returns c =
    let w = standing c.args.self.now in
    let first = first_of_list c.up_among-up.result c.in-Some.first.now c.in-Some.ensures in
    let set = c.write_members.new.members in
    c.rest_in.ensures
    ∙ ap (λ ns. list_all (λ n. rests_in c.in-Some-view.key set (w.facts n)) ns) c.up_among-up.ensures
    ∙ group_rests w c.args.group.now c.in-Some.first.now first.0 c.in-Some-view.key set (sym c.up_among-up.ensures ∙ first.1)
    (ap view_key (sym c.node.ensures.facts) ∙ key_of_view c.node.result.now.now c.in-Some-view.key c.in-Some-view.field-0-1 c.in-Some-view.ensures)
    (c.write_members.ensures ∙ ap (members_now w) (c.as_slice.ensures.same ∙ c.falling.ensures) ∙ as_members_are w c.up_among-up.result ∙ ap (as_members w) c.up_among-up.ensures)
