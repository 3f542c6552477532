use Rattle.std.proofs.Common.{◌≡◌, None, All, length}
use Rattle.record_store.proofs.store.no_stamps.Given as goal

abbrev pub invariant-loop : goal.invariant-loop
invariant-loop l = record {
  count : length l.stamps.items ≡ l.counter;
  none : All (λ s. s ≡ None) l.stamps.items;
}
