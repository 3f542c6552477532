use Rattle.std.proofs.Common.{◌≡◌, ◌-◌, ◌++◌, string_bytes}
use Rattle.cluster_top.specs.Generating.{opening_lines, steps_from}
use Rattle.cluster_top.proofs.generating.generated.Given as goal

abbrev pub invariant-loop-step : goal.invariant-loop-step
invariant-loop-step l = string_bytes l.script ++ steps_from (400 - l.step) l.step l.draws.state ≡ opening_lines ++ steps_from 400 0 l.fn.number
