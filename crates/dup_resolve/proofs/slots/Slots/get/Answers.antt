use Rattle.std.proofs.Common.{◌≡◌, ◌-◌, None, get_or, sym, subst, arith}
use Rattle.dup_resolve.specs.Open.{txn_at}
use Rattle.dup_resolve.specs.Places.{AreNumbered, running_of}
use Rattle.dup_resolve.proofs.SlotLaws.{in_no_slot, in_slot}
use Rattle.dup_resolve.proofs.slots.Slots.get.Goals as goal

pub returns-in_err-place : goal.returns-in_err-place
returns-in_err-place c =
    let slots = c.self.inside.slots in
    let at : AreNumbered (c.self.inside.opened - c.len.result) slots.items = subst (λ n. AreNumbered (c.self.inside.opened - n) slots.items) (sym c.len.ensures) c.self.invariant.1 in
    let none : txn_at (running_of slots.items) c.args.t ≡ None = in_no_slot c.self.inside.opened c.len.result slots.items c.args.t at (omega (arith, c.len.ensures, slots.ok)) (omega (arith, c.len.ensures, c.self.invariant.0)) c.in_err-place.ensures in
    grind (arith, none, c.len.ensures, c.self.view_is, c.from_residual.ensures)

pub returns : goal.returns
returns c =
    let slots = c.self.inside.slots in
    let at : AreNumbered (c.self.inside.opened - c.len.result) slots.items = subst (λ n. AreNumbered (c.self.inside.opened - n) slots.items) (sym c.len.ensures) c.self.invariant.1 in
    let in_slots = c.in_ok-place.ensures in
    let found : txn_at (running_of slots.items) c.args.t ≡ get_or slots.items c.in_ok-place.place c.index.result.now =
    in_slot (c.self.inside.opened - c.len.result) slots.items c.in_ok-place.place c.args.t c.index.result.now at (omega (arith, c.len.ensures, slots.ok)) (omega arith) in
    grind (arith, found, c.len.ensures, c.self.view_is, c.as_ref.ensures.value, c.index.ensures)
