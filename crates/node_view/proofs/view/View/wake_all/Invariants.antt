use Rattle.std.proofs.Common.{◌≡◌, ◌<◌, ℕ, true, false}
use Rattle.cluster_types.specs.Rows.{bit}
use Rattle.node_rules.specs.Facts.{Facts}
use Rattle.node_view.specs.Views.{IsInView, IsQuiet, with_live}
use Rattle.node_view.proofs.view.View.wake_all.Given as goal

abbrev pub invariant-loop-number : goal.invariant-loop-number
invariant-loop-number l = record {
  same : l.self ≡ with_live l.initial.self l.self.watch.live;
  live : (f : Facts) → IsInView f l.initial.self → f.store.content ≡ l.store.versions → (p : ℕ) → p < l.number → f.exchange.exchanged ≡ true → bit l.self.watch.live p ≡ false → IsQuiet f p;
}
