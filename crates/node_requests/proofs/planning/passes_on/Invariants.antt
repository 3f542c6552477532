use Rattle.std.proofs.Common.{◌≡◌, drop}
use Rattle.std.specs.List.{list_any}
use Rattle.node_requests.specs.Planned.{passes_on}
use Rattle.node_requests.proofs.planning.passes_on.Given as goal

abbrev pub invariant-loop-i : goal.invariant-loop-i
invariant-loop-i l = list_any passes_on (drop l.i l.lines) ≡ list_any passes_on l.lines
