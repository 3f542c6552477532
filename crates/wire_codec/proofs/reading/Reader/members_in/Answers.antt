use Rattle.std.proofs.Common.{length}
use Rattle.wire_codec.proofs.Orders.{not_refused, members_are}
use Rattle.wire_codec.proofs.reading.Reader.members_in.Goals as goal

pub unreachable-requires : goal.unreachable-requires
unreachable-requires c =
    not_refused c.with_roles.result c.in-Err.field-0 c.in-Err.is
    (c.with_roles.ensures.valid.1 (members_are (length c.args.places.now) c.args.self.now.rest.now c.fill_members.new.places c.fill_members.new.self.rest.now c.requires.some c.requires.limit c.in_ok-fill_members.ensures))
