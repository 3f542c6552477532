use Rattle.std.proofs.Common.{◌≡◌, ◌+◌}
use Rattle.bench_codec.proofs.send_all.Given as goal

abbrev pub invariant-loop-i : goal.invariant-loop-i
invariant-loop-i l = l.net.sent ≡ l.initial.net.sent + l.i
