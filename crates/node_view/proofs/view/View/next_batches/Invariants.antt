use Rattle.std.proofs.Common.{◌≡◌, filter_map, take}
use Rattle.node_view.specs.Views.{viewed_key}
use Rattle.node_view.proofs.DueLaws.{batch_for}
use Rattle.node_view.proofs.view.View.next_batches.Given as goal

abbrev pub invariant-loop-n : goal.invariant-loop-n
invariant-loop-n l = l.due.items ≡ filter_map (batch_for (viewed_key l.self) l.store.versions l.self.batches) (take l.n-index l.n-items)
