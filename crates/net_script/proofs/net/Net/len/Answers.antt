use Rattle.std.proofs.Common.{◌-◌, arith}
use Rattle.std.specs.VecDeque.{deque_len}
use Rattle.net_script.proofs.Flights.{are_numbers}
use Rattle.net_script.proofs.net.Net.len.Goals as goal

pub returns-clause-numbers : goal.returns-clause-numbers
returns-clause-numbers c =
    rw (← c.self.view_is) (are_numbers (c.self.inside.sent - deque_len c.self.inside.slots) c.self.inside.sent c.self.inside.slots.items (omega (arith, c.self.inside.slots.ok, c.self.invariant.0)))
