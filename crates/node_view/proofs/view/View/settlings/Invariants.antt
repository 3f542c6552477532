use Rattle.std.proofs.Common.{◌≡◌, ◌<◌, ◌≤◌, ◌-◌, All, AllPairs}
use Rattle.cluster_types.specs.Partitions.{partition_count}
use Rattle.node_rules.specs.Facts.{Facts, list_at, view_key}
use Rattle.node_rules.specs.Here.{here, lines_from}
use Rattle.node_view.specs.declared.here.Settling.{Settling}
use Rattle.node_view.specs.Settlings.{settling_lines, settling_of}
use Rattle.node_view.specs.Views.{IsViewOf}
use Rattle.node_view.proofs.view.View.settlings.Given as goal

abbrev pub invariant-loop-p : goal.invariant-loop-p
invariant-loop-p l = record {
  each : (f : Facts) → IsViewOf f l.self → f.store.content ≡ l.store.versions → All (λ (s : Settling). s ≡ settling_of s.partition (here f (list_at f s.partition) s.partition)) l.due.items;
  below : All (λ (s : Settling). s.partition < l.from) l.due.items;
  rise : AllPairs (λ (a b : Settling). a.partition < b.partition) l.due.items;
  lines : (f : Facts) → IsViewOf f l.self → f.store.content ≡ l.store.versions → settling_lines f.me (view_key f) l.due.items ≡ lines_from l.from 0 f;
  low : l.from ≤ partition_count;
}

abbrev pub decreases-loop-p : goal.decreases-loop-p
decreases-loop-p l = 4096 - l.from
