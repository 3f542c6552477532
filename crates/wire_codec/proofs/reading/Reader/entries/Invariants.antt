use Rattle.std.proofs.Common.{◌≡◌, ◌-◌, None}
use Rattle.wire_messages.specs.Fields.{items_at}
use Rattle.wire_messages.specs.Rows.{entry_at, with_entry}
use Rattle.wire_codec.proofs.Highest.{IsHighest}
use Rattle.wire_codec.proofs.Loops.{with_front}
use Rattle.wire_codec.proofs.reading.Reader.entries.Given as goal

-- the entries so far, and those that are left, are all of them
abbrev pub invariant-loop : goal.invariant-loop
invariant-loop l = record {
  so_far : with_front l.row (items_at entry_at with_entry (l.count - l.counter) l.before l.self.rest.now) ≡ items_at entry_at with_entry l.count None l.fn.self.rest.now;
  highest : IsHighest l.before l.row;
}
