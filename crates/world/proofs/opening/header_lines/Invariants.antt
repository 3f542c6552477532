use Rattle.std.proofs.Common.{◌≡◌, ◌++◌, drop}
use Rattle.cluster_rules.specs.Opening.{header_lines}
use Rattle.world.proofs.opening.header_lines.Given as goal

abbrev pub invariant-loop-line : goal.invariant-loop-line
invariant-loop-line l = l.lines ++ header_lines (drop l.line-index l.header) ≡ header_lines l.header
