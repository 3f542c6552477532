use Rattle.std.proofs.Common.{◌≡◌, drop}
use Rattle.sorted_chain.specs.Chain.{key_cmp}
use Rattle.sorted_chain.proofs.key.key_order.Given as goal

-- the bytes so far are equal, so those that are left decide
abbrev pub invariant-loop-i : goal.invariant-loop-i
invariant-loop-i l = key_cmp l.a l.b ≡ key_cmp (drop l.i l.a) (drop l.i l.b)
