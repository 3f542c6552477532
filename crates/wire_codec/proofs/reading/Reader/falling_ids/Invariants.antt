use Rattle.std.proofs.Common.{◌≡◌, ◌-◌, length}
use Rattle.wire_messages.specs.Fields.{items_at}
use Rattle.wire_messages.specs.Nodes.{falling_id_at, with_id, falling_ids_at}
use Rattle.wire_codec.proofs.Loops.{with_front}
use Rattle.wire_codec.proofs.Lowest.{IsLowest}
use Rattle.wire_codec.proofs.reading.Reader.falling_ids.Given as goal

abbrev pub invariant-loop : goal.invariant-loop
invariant-loop l = record {
  so_far : with_front l.ids (items_at falling_id_at with_id (l.count - l.counter) l.before l.self.rest.now) ≡ falling_ids_at l.count l.fn.self.rest.now;
  len : length l.ids ≡ l.counter;
  lowest : IsLowest l.before l.ids;
}
