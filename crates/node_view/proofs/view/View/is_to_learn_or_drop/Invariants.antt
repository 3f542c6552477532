use Rattle.std.proofs.Common.{◌≡◌, ◌<◌, ◌-◌, ℕ}
use Rattle.node_rules.specs.Facts.{Facts}
use Rattle.node_view.specs.Views.{IsViewOf}
use Rattle.node_view.proofs.SettledLaws.{Rests}
use Rattle.node_view.proofs.view.View.is_to_learn_or_drop.Given as goal

abbrev pub invariant-loop-p : goal.invariant-loop-p
invariant-loop-p l = (f : Facts) → IsViewOf f l.self → f.store.content ≡ l.store.versions → (q : ℕ) → q < l.from → Rests f q

abbrev pub decreases-loop-p : goal.decreases-loop-p
decreases-loop-p l = 4096 - l.from
