use Rattle.std.proofs.Common.{◌≡◌, ◌++◌, take}
use Rattle.std.specs.List.{flat_map}
use Rattle.wire_messages.specs.Rows.{entry_field}
use Rattle.wire_codec.proofs.writing.rows.put_each_entry.Given as goal

-- the first entries stand behind what stood there
abbrev pub invariant-loop-entry : goal.invariant-loop-entry
invariant-loop-entry l = l.out.items ≡ l.fn.out.items ++ flat_map entry_field (take l.entry-index l.entries)
