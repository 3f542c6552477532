use Rattle.std.proofs.Common.{◌≡◌, None, All, length}
use Rattle.client_map.proofs.client_map.no_entries.Given as goal

abbrev pub invariant-loop : goal.invariant-loop
invariant-loop l = record {
  size : length l.entries.items ≡ l.counter;
  none : All (λ e. e ≡ None) l.entries.items;
}
