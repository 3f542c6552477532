use Rattle.std.proofs.Common.{◌≡◌, ◌++◌, ℕ, length}
use Rattle.cluster_types.specs.Copies.{digests_of}
use Rattle.record_store.specs.Store.{digests_above}
use Rattle.emigrate.proofs.collect.add_copy.Given as goal

abbrev pub invariant-loop-page : goal.invariant-loop-page
invariant-loop-page l = l.digests.items ++ digests_above l.last (digests_of l.store.versions l.p) ≡ l.fn.digests.items ++ digests_of l.store.versions l.p

abbrev pub decreases-loop-page : goal.decreases-loop-page
decreases-loop-page l = length (digests_above l.last (digests_of l.store.versions l.p))
