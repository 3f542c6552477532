use Rattle.std.proofs.Common.{◌≡◌, replicate}
use Rattle.partition_lists.proofs.view_lists.repeated.Given as goal

abbrev pub invariant-loop : goal.invariant-loop
invariant-loop l = l.ids.items ≡ replicate l.counter l.only
