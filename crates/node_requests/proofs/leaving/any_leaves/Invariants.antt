use Rattle.std.proofs.Common.{◌≡◌, drop}
use Rattle.std.specs.List.{list_any}
use Rattle.request_rules.specs.Passing.{leaves}
use Rattle.node_requests.proofs.leaving.any_leaves.Given as goal

abbrev pub invariant-loop-i : goal.invariant-loop-i
invariant-loop-i l = list_any (leaves l.node) (drop l.i l.lines) ≡ list_any (leaves l.node) l.lines
