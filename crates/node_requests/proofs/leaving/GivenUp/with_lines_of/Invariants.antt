use Rattle.std.proofs.Common.{◌≡◌, ◌++◌, drop}
use Rattle.node_requests.specs.Leaving.{still_to_come, with_lines_of}
use Rattle.node_requests.proofs.leaving.GivenUp.with_lines_of.Given as goal

abbrev pub invariant-loop-i : goal.invariant-loop-i
invariant-loop-i l = l.told ++ still_to_come l.self l.left (drop l.i l.lines) ≡ with_lines_of l.self l.lines
