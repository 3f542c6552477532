use Rattle.std.proofs.Common.{◌≡◌, ◌-◌, ◌++◌, map, take}
use Rattle.record_store.proofs.store.first_digests.Given as goal

abbrev pub invariant-loop : goal.invariant-loop
invariant-loop l = record { taken : l.digests ++ take (l.max - l.counter) (map (λ e. e.0) l.entries) ≡ take l.max (map (λ e. e.0) l.initial.entries) }
