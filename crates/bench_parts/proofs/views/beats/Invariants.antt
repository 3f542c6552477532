use Rattle.std.proofs.Common.{◌≡◌}
use Rattle.bench_parts.proofs.views.beats.Given as goal

abbrev pub invariant-loop-round : goal.invariant-loop-round
invariant-loop-round l = l.hearing.me ≡ l.me
