use Rattle.std.proofs.Common.{◌≡◌, length}
use Rattle.record_store.specs.Store.{HasRoom}
use Rattle.node_rules.specs.Facts.{Facts}
use Rattle.node_rules.specs.Merging.{store_merged_all}
use Rattle.immigrate.specs.Digests.{record_digests}
use Rattle.node_view.specs.Views.{IsNodeInView, viewed_key, store_of}
use Rattle.node_view.proofs.MergeLaws.{holding}
use Rattle.node_view.proofs.view.View.merge.Given as goal

abbrev pub invariant-loop-digest : goal.invariant-loop-digest
invariant-loop-digest l = record {
  room : HasRoom (record_digests l.newer) l.store.spare;
  node : (f : Facts) → IsNodeInView f l.initial.self l.initial.store → IsNodeInView (holding f l.store) l.self l.store;
  rest : store_merged_all (store_of l.store) (viewed_key l.initial.self) l.newer ≡ store_merged_all (store_of l.initial.store) (viewed_key l.initial.self) l.initial.newer;
  key : viewed_key l.self ≡ viewed_key l.initial.self;
}

abbrev pub decreases-loop-digest : goal.decreases-loop-digest
decreases-loop-digest l = length l.newer
