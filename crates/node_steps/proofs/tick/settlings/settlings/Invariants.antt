use Rattle.std.proofs.Common.{◌≡◌, take}
use Rattle.node_rules.specs.Effects.{lines_only}
use Rattle.node_view.specs.Settlings.{settling_lines}
use Rattle.node_view.specs.Views.{viewed_key}
use Rattle.node_steps.specs.Spelled.{then_effects}
use Rattle.node_steps.proofs.tick.settlings.settlings.Given as goal

-- so far the lines of the first partitions
abbrev pub invariant-loop-settling : goal.invariant-loop-settling
invariant-loop-settling l =
    l.out ≡ then_effects l.initial.out (lines_only (settling_lines l.view.me (viewed_key l.view) (take l.settling-index l.settling-items)))
