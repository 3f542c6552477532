use Rattle.std.proofs.Common.{◌≡◌, ◌-◌, ◌<◌, ◌+◌, length, sym, ap, ◌∙◌, arith}
use Rattle.std.specs.VecDeque.{deque_len}
use Rattle.node_view.specs.Transactions.{Noted, without_note}
use Rattle.node_view.proofs.NoteLaws.{none_of_last, none_closed, slot_closed}
use Rattle.node_view.proofs.notes.TxnNotes.close.Goals as goal

pub returns-in-Some-clause-notes : goal.returns-in-Some-clause-notes
returns-in-Some-clause-notes c =
    let slots = c.self.inside.slots in
    let within : c.in-Some.place < length slots.items = omega (arith, c.in-Some.ensures, c.len.ensures, slots.ok.0) in
    let number : c.args.t ≡ c.self.inside.opened - deque_len slots + 1 + c.in-Some.place = omega (arith, c.in-Some.ensures, c.len.ensures) in
    let left = slot_closed (c.self.inside.opened - deque_len slots) slots.items c.in-Some.place c.args.t within number in
    let dropped = c.drop_closed.ensures.notes c.self.inside.opened (omega (arith, c.empty.ensures.len, c.self.invariant)) in
    dropped
    ∙ rw (c.empty.ensures.len, c.empty.ensures.items) left
    ∙ ap (λ (n : Noted). without_note n.kept c.args.t) c.self.view_is

pub returns-in-None-clause-notes : goal.returns-in-None-clause-notes
returns-in-None-clause-notes c =
    let slots = c.self.inside.slots in
    let none = none_of_last c.self.inside.opened c.len.result (deque_len slots) (length slots.items) c.args.t c.len.ensures slots.ok.0 c.self.invariant c.in-None.ensures in
    sym (rw (← c.self.view_is) (none_closed (c.self.inside.opened - deque_len slots) slots.items c.args.t none))
