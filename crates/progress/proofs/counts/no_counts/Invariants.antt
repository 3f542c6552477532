use Rattle.std.proofs.Common.{◌≡◌, replicate}
use Rattle.progress.proofs.counts.no_counts.Given as goal

abbrev pub invariant-loop : goal.invariant-loop
invariant-loop l = l.known.items ≡ replicate l.counter 0
