use Rattle.std.proofs.Common.{◌≡◌, take}
use Rattle.node_steps.proofs.send_list.SendList.copy.Given as goal

-- the copies so far are those of the first messages
abbrev pub invariant-loop-i : goal.invariant-loop-i
invariant-loop-i l = l.items.items ≡ take l.i l.self
