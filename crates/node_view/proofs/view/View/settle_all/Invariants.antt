use Rattle.std.proofs.Common.{drop, take}
use Rattle.node_rules.specs.Facts.{Facts}
use Rattle.node_view.specs.Fits.{IsReadyToSettle}
use Rattle.node_view.specs.Plans.{settled_by}
use Rattle.node_view.specs.Views.{IsNodeInView}
use Rattle.node_view.proofs.view.View.settle_all.Given as goal

abbrev pub invariant-loop-settling : goal.invariant-loop-settling
invariant-loop-settling l = record {
  node : (f : Facts) → IsNodeInView f l.initial.self l.initial.store → IsNodeInView (settled_by f (take l.settling-index l.settlings)) l.self l.store;
  ready : IsReadyToSettle l.self l.store (drop l.settling-index l.settlings);
}
