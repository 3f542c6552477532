use Rattle.std.proofs.Common.{◌≡◌, ◌++◌, map, take}
use Rattle.node_steps.proofs.effects.copy_to_each.Given as goal

-- so far the message goes to the first of the nodes
abbrev pub invariant-loop-n : goal.invariant-loop-n
invariant-loop-n l = l.sends ≡ l.initial.sends ++ map (λ n. (n, l.bytes)) (take l.n-index l.to)
