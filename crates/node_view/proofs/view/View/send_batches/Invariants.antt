use Rattle.std.proofs.Common.{◌≡◌}
use Rattle.std.specs.Vec.Iter.{into_iter_items}
use Rattle.node_rules.specs.ByParts.{sending_all}
use Rattle.node_view.specs.Fits.{IsReadyToSend}
use Rattle.node_view.proofs.SendLaws.{with_targets}
use Rattle.node_view.proofs.view.View.send_batches.Given as goal

abbrev pub invariant-loop-to : goal.invariant-loop-to
invariant-loop-to l = record {
  can_next : (goal.iterator-loop-to).can_next l.to-iterator;
  finite : (goal.iterator-loop-to).is_finite l.to-iterator;
  ready : IsReadyToSend l.self (into_iter_items l.to-iterator);
  rest : with_targets l.self (sending_all l.self.batches (into_iter_items l.to-iterator)) ≡ with_targets l.initial.self (sending_all l.initial.self.batches (into_iter_items l.initial.to-iterator));
}
