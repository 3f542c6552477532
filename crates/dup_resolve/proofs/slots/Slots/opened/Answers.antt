use Rattle.std.proofs.Common.{◌-◌, arith}
use Rattle.std.specs.VecDeque.{deque_len}
use Rattle.dup_resolve.proofs.SlotLaws.{are_rising, length_running}
use Rattle.dup_resolve.proofs.slots.Slots.opened.Goals as goal

pub returns-clause-limit : goal.returns-clause-limit
returns-clause-limit c =
    rw (← c.self.view_is) (omega (arith, length_running c.self.inside.slots.items, c.self.inside.slots.ok, c.self.invariant.0))

pub returns-clause-numbers : goal.returns-clause-numbers
returns-clause-numbers c =
    rw (← c.self.view_is) (are_rising (c.self.inside.opened - deque_len c.self.inside.slots) c.self.inside.opened c.self.inside.slots.items c.self.invariant.1 (omega (arith, c.self.inside.slots.ok, c.self.invariant.0)))
