use Rattle.std.proofs.Common.{◌≡◌, [], All, length}
use Rattle.record_store.proofs.store.empty_copies.Given as goal

abbrev pub invariant-loop : goal.invariant-loop
invariant-loop l = record {
  count : length l.copies.items ≡ l.counter;
  empty : All (λ c. c.items ≡ []) l.copies.items;
}
