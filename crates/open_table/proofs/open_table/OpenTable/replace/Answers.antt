use Rattle.std.proofs.Common.{◌≡◌, ◌-◌, List, Option, Some, None, get_or, length, IsTrue, sym, subst, ap, ap₂, ◌∙◌, arith}
use Rattle.std.proofs.lemmas.Grind.{common_steps}
use Rattle.std.specs.VecDeque.{deque_len}
use Rattle.request_rules.specs.ByNumber.{changing_item, item_under}
use Rattle.open_table.specs.Open.{OpenNumbers}
use Rattle.open_table.specs.Slots.{items_from, starts_with_item}
use Rattle.open_table.proofs.SlotLaws.{are_rising, as_many, in_no_slot, in_slot, replaced, starts_replaced, unmoved}
use Rattle.open_table.proofs.open_table.OpenTable.replace.Goals as goal

pub returns-in_err-place-clause-item : goal.returns-in_err-place-clause-item
returns-in_err-place-clause-item g c =
    let slots = c.self.inside.slots in
    let none : item_under (items_from (c.self.inside.given - c.len.result) slots.items) c.args.n ≡ None = in_no_slot c.self.inside.given c.len.result slots.items c.args.n (omega (arith, c.len.ensures, slots.ok)) (omega (arith, c.len.ensures, c.self.invariant.0)) c.in_err-place.ensures in
    grind (arith, none, c.len.ensures, c.self.view_is, c.from_residual.ensures)

pub returns-in_err-place-clause-items : goal.returns-in_err-place-clause-items
returns-in_err-place-clause-items g c =
    let slots = c.self.inside.slots in
    let none = in_no_slot c.self.inside.given (deque_len slots) slots.items c.args.n (omega (arith, slots.ok)) (omega (arith, c.self.invariant.0)) (rw c.len.ensures at c.in_err-place.ensures) in
    sym (rw (← c.self.view_is) (unmoved (items_from (c.self.inside.given - deque_len slots) slots.items) c.args.n c.args.item none))

pub returns-in_err-as_ref-clause-item : goal.returns-in_err-as_ref-clause-item
returns-in_err-as_ref-clause-item g c =
    let slots = c.self.inside.slots in
    let found : item_under (items_from (c.self.inside.given - c.len.result) slots.items) c.args.n ≡ get_or slots.items c.in_ok-place.place c.index-slot.result.now =
    in_slot (c.self.inside.given - c.len.result) slots.items c.in_ok-place.place c.args.n c.index-slot.result.now (omega (arith, c.in_ok-place.ensures, c.len.ensures, slots.ok)) (omega (arith, c.in_ok-place.ensures)) in
    grind (arith, found, c.len.ensures, c.self.view_is, c.index-slot.ensures, c.in_err-as_ref.ensures.value, c.from_residual-in_err-as_ref.ensures)

pub returns-in_err-as_ref-clause-items : goal.returns-in_err-as_ref-clause-items
returns-in_err-as_ref-clause-items g c =
    let none : item_under c.args.self.now.items c.args.n ≡ None = sym (returns-in_err-as_ref-clause-item g c) ∙ c.from_residual-in_err-as_ref.ensures in
    sym (unmoved c.args.self.now.items c.args.n c.args.item none)

pub invariant_of-self : goal.invariant_of-self
invariant_of-self g c =
    let slots = c.self.inside.slots in
    let r = c.replace_at.ensures in
    let item : get_or slots.items c.in_ok-place.place None ≡ Some c.in_ok-as_ref.field-0.now = grind (arith, common_steps, c.len.ensures, slots.ok, c.in_ok-place.ensures, c.index-slot.ensures, c.in_ok-as_ref.ensures.value) in
    let same = ap₂ (λ m (s : List (Option g.row.T.Denot)). length (items_from (c.self.inside.given - m) s)) r.len r.items in (
      omega (arith, r.len, c.self.invariant.0),
      subst (λ (s : List (Option g.row.T.Denot)). IsTrue (starts_with_item s)) (sym r.items) (starts_replaced slots.items c.in_ok-place.place c.args.item c.self.invariant.1),
      c.self.invariant.2 ∙ sym (same ∙ as_many (c.self.inside.given - deque_len slots) slots.items c.in_ok-place.place c.in_ok-as_ref.field-0.now c.args.item item),
    )

pub returns-clause-item : goal.returns-clause-item
returns-clause-item g c =
    let slots = c.self.inside.slots in
    let found = in_slot (c.self.inside.given - deque_len slots) slots.items c.in_ok-place.place c.args.n None (omega (arith, c.in_ok-place.ensures, c.len.ensures, slots.ok)) (omega (arith, c.in_ok-place.ensures, c.len.ensures)) in
    c.replace_at.ensures.item
    ∙ sym found
    ∙ ap (λ (o : OpenNumbers g.row.T.Denot). item_under o.items c.args.n) c.self.view_is

pub returns-clause-items : goal.returns-clause-items
returns-clause-items g c =
    let slots = c.self.inside.slots in
    let r = c.replace_at.ensures in
    let b = c.self.inside.given - deque_len slots in
    let item : get_or slots.items c.in_ok-place.place None ≡ Some c.in_ok-as_ref.field-0.now = grind (arith, common_steps, c.len.ensures, slots.ok, c.in_ok-place.ensures, c.index-slot.ensures, c.in_ok-as_ref.ensures.value) in
    ap₂ (λ m (s : List (Option g.row.T.Denot)). items_from (c.self.inside.given - m) s) r.len r.items
    ∙ replaced b slots.items c.in_ok-place.place c.args.n c.in_ok-as_ref.field-0.now c.args.item item (omega (arith, c.in_ok-place.ensures, c.len.ensures))
    ∙ ap (λ (o : OpenNumbers g.row.T.Denot). changing_item o.items c.args.n (λ v. c.args.item)) c.self.view_is

pub returns-in_err-place-clause-numbers : goal.returns-in_err-place-clause-numbers
returns-in_err-place-clause-numbers g c =
    rw (← c.self.view_is) (are_rising (c.self.inside.given - deque_len c.self.inside.slots) c.self.inside.given c.self.inside.slots.items (omega (arith, c.self.inside.slots.ok, c.self.invariant.0)))

pub returns-in_err-as_ref-clause-numbers : goal.returns-in_err-as_ref-clause-numbers
returns-in_err-as_ref-clause-numbers g c =
    rw (← c.self.view_is) (are_rising (c.self.inside.given - deque_len c.self.inside.slots) c.self.inside.given c.self.inside.slots.items (omega (arith, c.self.inside.slots.ok, c.self.invariant.0)))

pub returns-clause-numbers : goal.returns-clause-numbers
returns-clause-numbers g c =
    rw (← c.self.view_is) (are_rising (c.self.inside.given - deque_len c.self.inside.slots) c.self.inside.given c.self.inside.slots.items (omega (arith, c.self.inside.slots.ok, c.self.invariant.0)))
