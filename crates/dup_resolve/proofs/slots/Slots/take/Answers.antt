use Rattle.std.proofs.Common.{◌<◌, ◌-◌, None, length, sym, ap, ◌∙◌, subst, arith}
use Rattle.std.specs.VecDeque.{deque_len}
use Rattle.dup_resolve.specs.Open.{without_txn, txn_digest_at, txn_digest}
use Rattle.dup_resolve.specs.Places.{AreNumbered, Slotted, running_of}
use Rattle.dup_resolve.proofs.SlotLaws.{are_rising, closing_missing, emptied, in_no_slot, in_slot, keeps_none, numbered_set}
use Rattle.dup_resolve.proofs.slots.Slots.take.Goals as goal

pub returns-in_err-place-clause-digest : goal.returns-in_err-place-clause-digest
returns-in_err-place-clause-digest c =
    let slots = c.self.inside.slots in
    let at : AreNumbered (c.self.inside.opened - c.len.result) slots.items = subst (λ n. AreNumbered (c.self.inside.opened - n) slots.items) (sym c.len.ensures) c.self.invariant.1 in
    let none = in_no_slot c.self.inside.opened c.len.result slots.items c.args.t at (omega (arith, c.len.ensures, slots.ok)) (omega (arith, c.len.ensures, c.self.invariant.0)) c.in_err-place.ensures in
    c.from_residual.ensures
    ∙ sym (ap txn_digest none)
    ∙ ap (λ (s : Slotted). txn_digest_at s.running c.args.t) c.self.view_is

pub returns-in_err-place-clause-running : goal.returns-in_err-place-clause-running
returns-in_err-place-clause-running c =
    let slots = c.self.inside.slots in
    let at : AreNumbered (c.self.inside.opened - c.len.result) slots.items = subst (λ n. AreNumbered (c.self.inside.opened - n) slots.items) (sym c.len.ensures) c.self.invariant.1 in
    let none = in_no_slot c.self.inside.opened c.len.result slots.items c.args.t at (omega (arith, c.len.ensures, slots.ok)) (omega (arith, c.len.ensures, c.self.invariant.0)) c.in_err-place.ensures in
    sym (rw (← c.self.view_is) (closing_missing (running_of slots.items) c.args.t none))

pub returns-in_err-place-clause-numbers : goal.returns-in_err-place-clause-numbers
returns-in_err-place-clause-numbers c =
    rw (← c.self.view_is) (are_rising (c.self.inside.opened - deque_len c.self.inside.slots) c.self.inside.opened c.self.inside.slots.items c.self.invariant.1 (omega (arith, c.self.inside.slots.ok, c.self.invariant.0)))

pub invariant_of-self : goal.invariant_of-self
invariant_of-self c =
    let slots = c.self.inside.slots in
    let t = c.take_at-txn.ensures in
    let d = c.drop_taken.ensures in
    let within : c.in_ok-place.place < length slots.items = omega (arith, c.in_ok-place.ensures, c.len.ensures, slots.ok) in
    let numbers = numbered_set (c.self.inside.opened - deque_len slots) slots.items c.in_ok-place.place None None c.self.invariant.1 within (keeps_none _) in (
      omega (arith, d.len, t.len, c.self.invariant.0),
      d.numbers c.self.inside.opened (omega (arith, t.len, c.self.invariant.0)) (rw (t.items, t.len) numbers),
      d.first,
    )

pub returns-clause-digest : goal.returns-clause-digest
returns-clause-digest c =
    let slots = c.self.inside.slots in
    let found = in_slot (c.self.inside.opened - deque_len slots) slots.items c.in_ok-place.place c.args.t None c.self.invariant.1 (omega (arith, c.in_ok-place.ensures, c.len.ensures, slots.ok)) (omega (arith, c.in_ok-place.ensures, c.len.ensures)) in
    c.digest_of.ensures
    ∙ ap txn_digest (c.take_at-txn.ensures.txn ∙ sym found)
    ∙ ap (λ (s : Slotted). txn_digest_at s.running c.args.t) c.self.view_is

pub returns-clause-running : goal.returns-clause-running
returns-clause-running c =
    let slots = c.self.inside.slots in
    let left = emptied (c.self.inside.opened - deque_len slots) slots.items c.in_ok-place.place c.args.t c.self.invariant.1 (omega (arith, c.in_ok-place.ensures, c.len.ensures, slots.ok)) (omega (arith, c.in_ok-place.ensures, c.len.ensures)) in
    c.drop_taken.ensures.running ∙ ap running_of c.take_at-txn.ensures.items ∙ left ∙ ap (λ (s : Slotted). without_txn s.running c.args.t) c.self.view_is

pub returns-clause-numbers : goal.returns-clause-numbers
returns-clause-numbers c =
    rw (← c.self.view_is) (are_rising (c.self.inside.opened - deque_len c.self.inside.slots) c.self.inside.opened c.self.inside.slots.items c.self.invariant.1 (omega (arith, c.self.inside.slots.ok, c.self.invariant.0)))
