use Rattle.std.proofs.Common.{◌≡◌, ◌-◌, ◌≤◌, map}
use Rattle.std.specs.List.{range_with_len}
use Rattle.node_rules.specs.Facts.{list_at}
use Rattle.node_rules.specs.Map.{entry_of}
use Rattle.node_rules.specs.Shows.{map_line}
use Rattle.world.proofs.showing.mapped_lines.Given as goal

abbrev pub invariant-loop-number : goal.invariant-loop-number
invariant-loop-number l = record {
  told : l.lines ≡ map (λ p. map_line l.node.now p (entry_of (list_at l.node.now p) l.node.now.exchange.rows p)) (range_with_len l.first (l.number - l.first));
  within : l.number - l.first ≤ l.end - l.first;
}
