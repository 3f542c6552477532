use Rattle.std.proofs.Common.{◌≡◌}
use Rattle.emigrate.specs.Going.{digests_below}
use Rattle.emigrate.proofs.collect.digests_for.Given as goal

abbrev pub invariant-loop-number : goal.invariant-loop-number
invariant-loop-number g l = l.digests.items ≡ digests_below l.store.versions (λ p. g.X.MapView.sends_to l.x p l.me l.to) l.number
