use Rattle.std.proofs.Common.{◌≡◌, ◌++◌, take}
use Rattle.std.specs.List.{flat_map}
use Rattle.wire_messages.specs.Nodes.{member_field}
use Rattle.wire_codec.proofs.writing.members.put_each_member.Given as goal

-- the first members stand behind what stood there
abbrev pub invariant-loop-member : goal.invariant-loop-member
invariant-loop-member l = l.out.items ≡ l.fn.out.items ++ flat_map member_field (take l.member-index l.members)
