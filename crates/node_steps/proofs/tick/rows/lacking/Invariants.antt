use Rattle.std.proofs.Common.{◌≡◌, filter, take}
use Rattle.node_rules.specs.Map.{lacks}
use Rattle.node_steps.proofs.tick.rows.lacking.Given as goal

-- so far those of the first other members that are lacking
abbrev pub invariant-loop-n : goal.invariant-loop-n
invariant-loop-n l = l.lacking ≡ filter (lacks l.view.exchange.rows) (take l.n-index l.n-items)
