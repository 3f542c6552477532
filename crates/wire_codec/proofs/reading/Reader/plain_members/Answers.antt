use Rattle.std.proofs.Common.{arith, map}
use Rattle.cluster_types.specs.Members.{AreMembers, plain_member}
use Rattle.wire_codec.proofs.Orders.{not_refused, plain_members_are}
use Rattle.wire_codec.proofs.reading.Reader.plain_members.Goals as goal

pub unreachable-requires : goal.unreachable-requires
unreachable-requires c =
    let same = c.as_slice.ensures.same in
    let ids = c.in_ok-ids.ids in
    let are : AreMembers (map plain_member ids) = plain_members_are ids (omega (arith, c.in_ok-ids.ensures.count.0)) c.in_ok-ids.ensures.count.1 c.in_ok-ids.ensures.order in
    not_refused c.from_slice.result c.in-Err.field-0 c.in-Err.is (c.from_slice.ensures.valid.1 (rw same are))
