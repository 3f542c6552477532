use Rattle.std.proofs.Common.{◌≡◌, ◌≤◌, ◌-◌, ◌+◌, vec_len}
use Rattle.replay_core.specs.Streams.{Gave}
use Rattle.replay_core.proofs.reading.read_all.Given as goal

abbrev pub invariant-pieces : goal.invariant-pieces
invariant-pieces g l = record {
  in_range : vec_len l.bytes ≤ l.limit;
  room : vec_len l.buffer ≡ 65536;
  given : Gave (g.S.Source.left l.initial.source) (g.S.Source.left l.source) l.bytes.items;
  told : g.S.Source.faults l.source ≡ g.S.Source.faults l.initial.source;
}

abbrev pub decreases-pieces : goal.decreases-pieces
decreases-pieces g l = l.limit + 1 - vec_len l.bytes
