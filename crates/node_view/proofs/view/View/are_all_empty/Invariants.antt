use Rattle.std.proofs.Common.{◌≡◌, ◌<◌, ◌-◌, ℕ, true}
use Rattle.cluster_types.specs.Rows.{bit}
use Rattle.node_view.specs.Views.{is_known_empty}
use Rattle.node_view.proofs.view.View.are_all_empty.Given as goal

abbrev pub invariant-loop-p : goal.invariant-loop-p
invariant-loop-p l = (q : ℕ) → q < l.from → bit l.partitions q ≡ true → is_known_empty l.self q ≡ true

abbrev pub decreases-loop-p : goal.decreases-loop-p
decreases-loop-p l = 4096 - l.from
