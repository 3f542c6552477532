use Rattle.std.proofs.Common.{◌-◌, ◌+◌, inr, arith}
use Rattle.std.specs.VecDeque.{deque_len}
use Rattle.node_view.proofs.NoteLaws.{none_kept, slot_pushed}
use Rattle.node_view.proofs.notes.TxnNotes.open.Goals as goal

pub returns-clause-notes : goal.returns-clause-notes
returns-clause-notes c =
    let slots = c.self.inside.slots in
    rw (← c.self.view_is) (slot_pushed c.self.inside.opened (deque_len slots) (deque_len c.push_back_reserved.new.self) slots.items c.push_back_reserved.new.self.items _ c.push_back_reserved.ensures.len slots.ok.0 c.self.invariant c.push_back_reserved.ensures.items)

pub returns-clause-fresh : goal.returns-clause-fresh
returns-clause-fresh c =
    let slots = c.self.inside.slots in
    rw (← c.self.view_is) (none_kept (c.self.inside.opened - deque_len slots) slots.items (c.self.inside.opened + 1) (inr (omega (arith, c.self.invariant, slots.ok.0))))
