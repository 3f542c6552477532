use Rattle.std.proofs.Common.{◌≡◌, ◌-◌, ◌<◌, ◌+◌, length, sym, ap, ◌∙◌, arith}
use Rattle.std.specs.VecDeque.{deque_len}
use Rattle.std.specs.Option.{option_copied}
use Rattle.node_view.specs.Transactions.{Noted, note_of}
use Rattle.node_view.proofs.NoteLaws.{none_of_last, none_kept, slot_kept}
use Rattle.node_view.proofs.notes.TxnNotes.get.Goals as goal

pub returns-in_err-place : goal.returns-in_err-place
returns-in_err-place c =
    let slots = c.self.inside.slots in
    let none = none_of_last c.self.inside.opened c.len.result (deque_len slots) (length slots.items) c.args.t c.len.ensures slots.ok.0 c.self.invariant c.in_err-place.ensures in
    ap option_copied c.from_residual.ensures
    ∙ sym (none_kept (c.self.inside.opened - deque_len slots) slots.items c.args.t none)
    ∙ ap (λ (n : Noted). note_of n.kept c.args.t) c.self.view_is

pub returns : goal.returns
returns c =
    let slots = c.self.inside.slots in
    let within : c.in_ok-place.place < length slots.items = omega (arith, c.in_ok-place.ensures, c.len.ensures, slots.ok.0) in
    let number : c.args.t ≡ c.self.inside.opened - deque_len slots + 1 + c.in_ok-place.place = omega (arith, c.in_ok-place.ensures, c.len.ensures) in
    let found = slot_kept (c.self.inside.opened - deque_len slots) slots.items c.in_ok-place.place c.args.t c.index.result.now within number in
    c.as_ref.ensures.value ∙ (c.index.ensures ∙ sym found) ∙ ap (λ (n : Noted). note_of n.kept c.args.t) c.self.view_is
