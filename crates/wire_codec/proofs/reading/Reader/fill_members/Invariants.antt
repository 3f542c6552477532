use Rattle.std.proofs.Common.{◌≡◌, ◌-◌, length, take}
use Rattle.wire_messages.specs.Fields.{items_at}
use Rattle.wire_messages.specs.Nodes.{member_at, with_member, nobody_before}
use Rattle.wire_codec.proofs.Loops.{with_front}
use Rattle.wire_codec.proofs.reading.Reader.fill_members.Given as goal

-- the members so far, and those that are left, are all of them
abbrev pub invariant-loop-i : goal.invariant-loop-i
invariant-loop-i l = with_front (take l.i l.places) (items_at member_at with_member (length l.fn.places - l.i) l.before l.self.rest.now) ≡ items_at member_at with_member (length l.fn.places) nobody_before l.fn.self.rest.now
