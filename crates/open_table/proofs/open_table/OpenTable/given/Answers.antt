use Rattle.std.proofs.Common.{◌-◌, arith}
use Rattle.std.specs.VecDeque.{deque_len}
use Rattle.open_table.proofs.SlotLaws.{are_rising}
use Rattle.open_table.proofs.open_table.OpenTable.given.Goals as goal

pub returns-clause-numbers : goal.returns-clause-numbers
returns-clause-numbers g c =
    rw (← c.self.view_is) (are_rising (c.self.inside.given - deque_len c.self.inside.slots) c.self.inside.given c.self.inside.slots.items (omega (arith, c.self.inside.slots.ok, c.self.invariant.0)))
