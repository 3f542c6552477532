use Rattle.std.proofs.Common.{◌≡◌, ◌++◌, map, take}
use Rattle.journal_lines.specs.declared.line.Line.TheVariants as line
use Rattle.node_requests.proofs.leaving.GivenUp.push_given_up.Given as goal

abbrev pub invariant-loop-number : goal.invariant-loop-number
invariant-loop-number l = l.told ≡ l.initial.told ++ map (λ x. line.Unproxied l.self.node l.self.key x) (take l.number-index l.self.numbers)
