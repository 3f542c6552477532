use Rattle.std.proofs.Common.{◌≡◌, ◌++◌, map, filter, take}
use Rattle.heartbeat.specs.Entries.{member_in, names_from_above}
use Rattle.heartbeat.proofs.room.Room.add_above.Given as goal

abbrev pub invariant-loop-entry : goal.invariant-loop-entry
invariant-loop-entry l = l.self ≡ l.initial.self ++ map member_in (filter (names_from_above l.me) (take l.entry-index l.entries))
