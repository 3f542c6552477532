use Rattle.std.proofs.Common.{◌≡◌}
use Rattle.bench_parts.proofs.records.open_all.Given as goal

abbrev pub invariant-loop-i : goal.invariant-loop-i
invariant-loop-i l = l.txns.opened ≡ l.i
