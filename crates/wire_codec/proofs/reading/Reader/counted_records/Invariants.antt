use Rattle.std.proofs.Common.{◌≡◌, ◌-◌, None}
use Rattle.wire_messages.specs.Fields.{items_at}
use Rattle.wire_messages.specs.Versions.{record_at, with_record}
use Rattle.wire_codec.proofs.Loops.{with_front}
use Rattle.wire_codec.proofs.reading.Reader.counted_records.Given as goal

-- the records so far, and those that are left, are all of them
abbrev pub invariant-loop : goal.invariant-loop
invariant-loop l = with_front l.records (items_at record_at with_record (l.count - l.counter) l.before l.self.rest.now) ≡ items_at record_at with_record l.count None l.fn.self.rest.now
