use Rattle.std.proofs.Common.{◌≡◌, ◌-◌, None, length, take}
use Rattle.wire_messages.specs.Fields.{items_at}
use Rattle.wire_messages.specs.Nodes.{any_id_at, with_any_id}
use Rattle.wire_codec.proofs.Loops.{with_front}
use Rattle.wire_codec.proofs.reading.Reader.fill_ids.Given as goal

-- the ids so far, and those that are left, are all of them
abbrev pub invariant-loop-i : goal.invariant-loop-i
invariant-loop-i l = with_front (take l.i l.ids) (items_at any_id_at with_any_id (length l.fn.ids - l.i) None l.self.rest.now) ≡ items_at any_id_at with_any_id (length l.fn.ids) None l.fn.self.rest.now
