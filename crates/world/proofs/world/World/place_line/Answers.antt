use Rattle.std.proofs.Common.{ap, ◌∙◌}
use Rattle.std.specs.Prelude.{nat_lt}
use Rattle.partition_lists.specs.Lists.{in_order}
use Rattle.cluster_rules.specs.Opening.{declared_nodes}
use Rattle.world.specs.Steps.{standing}
use Rattle.world.proofs.KeepLaws.{fits_of}
use Rattle.world.proofs.PlaceLaws.{fallen_known, members_fall, place_due}
use Rattle.world.proofs.world.World.place_line.Goals as goal

pub write_members-requires-clause-declared : goal.write_members-requires-clause-declared
write_members-requires-clause-declared c =
    fallen_known (declared_nodes c.args.self.now.header) c.as_slice.result.now (c.as_slice.ensures.same ∙ c.falling-ids.ensures ∙ ap (in_order (λ m n. nat_lt n m)) c.rising_ids.ensures)

pub place-requires-clause-order : goal.place-requires-clause-order
place-requires-clause-order c =
    members_fall (standing c.args.self.now) (declared_nodes c.args.self.now.header) c.as_slice.result.now c.write_members.new.members (fits_of c.self.inside c.args.self.now c.self.view_is c.self.invariant).taken.declared.distinct
    (c.as_slice.ensures.same ∙ c.falling-ids.ensures ∙ ap (in_order (λ m n. nat_lt n m)) c.rising_ids.ensures)
    c.write_members.ensures

pub returns : goal.returns
returns c =
    place_due c.args.self.now c.args.partition c.as_slice.result.now c.write_members.new.members c.in_ok-new.field-0 (fits_of c.self.inside c.args.self.now c.self.view_is c.self.invariant).taken.declared.distinct
    (c.as_slice.ensures.same ∙ c.falling-ids.ensures ∙ ap (in_order (λ m n. nat_lt n m)) c.rising_ids.ensures)
    c.write_members.ensures (c.in_ok-new.ensures ∙ c.in_ok-place.ensures)
