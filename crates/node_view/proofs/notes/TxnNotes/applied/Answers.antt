use Rattle.std.proofs.Common.{◌≡◌, ◌-◌, ◌<◌, ◌+◌, length, sym, ap, ◌∙◌, arith}
use Rattle.std.specs.VecDeque.{deque_len}
use Rattle.node_view.specs.Transactions as kept
use Rattle.node_view.specs.Transactions.{Noted, note_of, notes_after, with_note, without_note}
use Rattle.node_view.proofs.NoteLaws.{none_of_last, none_changed, slot_changed}
use Rattle.node_view.proofs.notes.TxnNotes.applied.Goals as goal

pub returns-in-Some-clause-notes : goal.returns-in-Some-clause-notes
returns-in-Some-clause-notes c =
    let slots = c.self.inside.slots in
    let within : c.in-Some.place < length slots.items = omega (arith, c.in-Some.ensures, c.len.ensures, slots.ok.0) in
    let number : c.args.t ≡ c.self.inside.opened - deque_len slots + 1 + c.in-Some.place = omega (arith, c.in-Some.ensures, c.len.ensures) in
    slot_changed (kept.note_with_write c.args.write) (c.self.inside.opened - deque_len slots) slots.items c.in-Some.place c.args.t c.index_mut.result.now c.put_write.new.slot within number c.index_mut.ensures.value c.put_write.ensures
    ∙ ap (λ (n : Noted). with_note n.kept c.args.t
    (kept.note_with_write c.args.write)) c.self.view_is

pub returns-in-None-clause-notes : goal.returns-in-None-clause-notes
returns-in-None-clause-notes c =
    let slots = c.self.inside.slots in
    let none = none_of_last c.self.inside.opened c.len.result (deque_len slots) (length slots.items) c.args.t c.len.ensures slots.ok.0 c.self.invariant c.in-None.ensures in
    sym (rw (← c.self.view_is) (none_changed (kept.note_with_write c.args.write) (c.self.inside.opened - deque_len slots) slots.items c.args.t none))
