use Rattle.std.proofs.Common.{◌≡◌}
use Rattle.bench_parts.proofs.views.hear_all.Given as goal

abbrev pub invariant-loop-member : goal.invariant-loop-member
invariant-loop-member l = l.hearing.me ≡ l.me
