use Rattle.std.proofs.Common.{◌≡◌, ◌≤◌, count_by, not}
use Rattle.std.specs.List.{range_with_len}
use Rattle.node_rules.specs.Standing.{knows_settled}
use Rattle.node_view.specs.Views.{facts_seen}
use Rattle.node_view.proofs.view.View.number_unsettled.Given as goal

abbrev pub invariant-loop-number : goal.invariant-loop-number
invariant-loop-number l = record {
  counted : l.unsettled ≡ count_by (λ p. not (knows_settled (facts_seen l.self) p)) (range_with_len 0 l.number);
  few : l.unsettled ≤ l.number;
}
