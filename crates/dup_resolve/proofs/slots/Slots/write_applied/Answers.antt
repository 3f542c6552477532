use Rattle.std.proofs.Common.{◌-◌, refl, sym, ap, ◌∙◌, subst, arith}
use Rattle.std.specs.VecDeque.{deque_len}
use Rattle.dup_resolve.specs.Open.{change_txn, txn_with_write}
use Rattle.dup_resolve.specs.Places.{AreNumbered, Slotted, running_of}
use Rattle.dup_resolve.proofs.SlotLaws.{change_at, changing_missing, in_no_slot}
use Rattle.dup_resolve.proofs.slots.Slots.write_applied.Goals as goal

pub invariant_of-self : goal.invariant_of-self
invariant_of-self c =
    let slots = c.self.inside.slots in
    let made = change_at (txn_with_write c.args.to) (λ t. refl) (c.self.inside.opened - deque_len slots) slots.items c.in-Some.place c.args.t c.index_mut.result.now c.apply_in.new.slot c.self.invariant.1 c.self.invariant.2 (omega (arith, c.in-Some.ensures, c.len.ensures, slots.ok)) (omega (arith, c.in-Some.ensures, c.len.ensures)) c.index_mut.ensures.value c.apply_in.ensures in
    (c.self.invariant.0, made.numbers, made.first)

pub returns-in-Some-clause-running : goal.returns-in-Some-clause-running
returns-in-Some-clause-running c =
    let slots = c.self.inside.slots in
    let made = change_at (txn_with_write c.args.to) (λ t. refl) (c.self.inside.opened - deque_len slots) slots.items c.in-Some.place c.args.t c.index_mut.result.now c.apply_in.new.slot c.self.invariant.1 c.self.invariant.2 (omega (arith, c.in-Some.ensures, c.len.ensures, slots.ok)) (omega (arith, c.in-Some.ensures, c.len.ensures)) c.index_mut.ensures.value c.apply_in.ensures in
    made.running ∙ ap (λ (s : Slotted). change_txn s.running c.args.t (txn_with_write c.args.to)) c.self.view_is

pub returns-in_default-clause-running : goal.returns-in_default-clause-running
returns-in_default-clause-running c =
    let slots = c.self.inside.slots in
    let at : AreNumbered (c.self.inside.opened - c.len.result) slots.items = subst (λ n. AreNumbered (c.self.inside.opened - n) slots.items) (sym c.len.ensures) c.self.invariant.1 in
    let none = in_no_slot c.self.inside.opened c.len.result slots.items c.args.t at (omega (arith, c.len.ensures, slots.ok)) (omega (arith, c.len.ensures, c.self.invariant.0)) c.in_default.ensures in
    sym (rw (← c.self.view_is) (changing_missing (running_of slots.items) c.args.t (txn_with_write c.args.to) none))
