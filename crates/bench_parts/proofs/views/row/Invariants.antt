use Rattle.std.proofs.Common.{◌<◌, All}
use Rattle.bench_parts.proofs.views.row.Given as goal

abbrev pub invariant-loop-number : goal.invariant-loop-number
invariant-loop-number l = All (λ e. e.0 < l.number) l.row
