use Rattle.std.proofs.Common.{◌≡◌, ◌-◌, List, Option, Some, None, get_or, set, length, sym, ap, ap₂, ◌∙◌, arith}
use Rattle.std.specs.VecDeque.{deque_len}
use Rattle.request_rules.specs.ByNumber.{item_under, without_number}
use Rattle.open_table.specs.Open.{OpenNumbers}
use Rattle.open_table.specs.Slots.{items_from}
use Rattle.open_table.proofs.SlotLaws.{emptied, in_no_slot, in_slot, missing, one_less}
use Rattle.open_table.proofs.open_table.OpenTable.take.Goals as goal

pub returns-in_err-place-clause-item : goal.returns-in_err-place-clause-item
returns-in_err-place-clause-item g c =
    let slots = c.self.inside.slots in
    let none : item_under (items_from (c.self.inside.given - c.len.result) slots.items) c.args.n ≡ None = in_no_slot c.self.inside.given c.len.result slots.items c.args.n (omega (arith, c.len.ensures, slots.ok)) (omega (arith, c.len.ensures, c.self.invariant.0)) c.in_err-place.ensures in
    grind (arith, none, c.len.ensures, c.self.view_is, c.from_residual.ensures)

pub returns-in_err-place-clause-items : goal.returns-in_err-place-clause-items
returns-in_err-place-clause-items g c =
    let slots = c.self.inside.slots in
    let none = in_no_slot c.self.inside.given (deque_len slots) slots.items c.args.n (omega (arith, slots.ok)) (omega (arith, c.self.invariant.0)) (rw c.len.ensures at c.in_err-place.ensures) in
    sym (rw (← c.self.view_is) (missing (items_from (c.self.inside.given - deque_len slots) slots.items) c.args.n none))

pub returns-in_err-item-clause-item : goal.returns-in_err-item-clause-item
returns-in_err-item-clause-item g c =
    let slots = c.self.inside.slots in
    let found : item_under (items_from (c.self.inside.given - deque_len slots) slots.items) c.args.n ≡ get_or slots.items c.in_ok-place.place None =
    in_slot (c.self.inside.given - deque_len slots) slots.items c.in_ok-place.place c.args.n None (omega (arith, c.in_ok-place.ensures, c.len.ensures, slots.ok)) (omega (arith, c.in_ok-place.ensures, c.len.ensures)) in
    grind (arith, found, c.self.view_is, c.from_residual-in_err-item.ensures, c.take_at.ensures.item, c.in_err-item.is)

pub returns-in_err-item-clause-items : goal.returns-in_err-item-clause-items
returns-in_err-item-clause-items g c =
    let slots = c.self.inside.slots in
    let left = emptied (c.self.inside.given - deque_len slots) slots.items c.in_ok-place.place c.args.n (omega (arith, c.in_ok-place.ensures, c.len.ensures, slots.ok)) (omega (arith, c.in_ok-place.ensures, c.len.ensures)) in
    ap₂ (λ m (s : List (Option g.row.T.Denot)). items_from (c.self.inside.given - m) s) c.take_at.ensures.len c.take_at.ensures.items
    ∙ left
    ∙ ap (λ (o : OpenNumbers g.row.T.Denot). without_number o.items c.args.n) c.self.view_is

pub invariant_of-self-2 : goal.invariant_of-self-2
invariant_of-self-2 g c =
    let slots = c.self.inside.slots in
    let t = c.take_at.ensures in
    let d = c.drop_taken.ensures in
    let b = c.self.inside.given - deque_len slots in
    let item : get_or slots.items c.in_ok-place.place None ≡ Some c.in_ok-item.item = sym t.item ∙ c.in_ok-item.was in
    let less = one_less b slots.items c.in_ok-place.place c.in_ok-item.item item in
    let same : length (items_from (c.self.inside.given - deque_len c.drop_taken.new.slots) c.drop_taken.new.slots.items) ≡ length (items_from b (set slots.items c.in_ok-place.place None)) =
    ap length (d.items c.self.inside.given (omega (arith, t.len, c.self.invariant.0)))
    ∙ ap₂ (λ m (s : List (Option g.row.T.Denot)). length (items_from (c.self.inside.given - m) s)) t.len t.items in (
      omega (arith, d.len, t.len, c.self.invariant.0),
      d.first,
      omega (arith, same, less, c.self.invariant.2),
    )

pub returns-clause-item : goal.returns-clause-item
returns-clause-item g c =
    let slots = c.self.inside.slots in
    let found = in_slot (c.self.inside.given - deque_len slots) slots.items c.in_ok-place.place c.args.n None (omega (arith, c.in_ok-place.ensures, c.len.ensures, slots.ok)) (omega (arith, c.in_ok-place.ensures, c.len.ensures)) in
    sym c.in_ok-item.was
    ∙ c.take_at.ensures.item
    ∙ sym found
    ∙ ap (λ (o : OpenNumbers g.row.T.Denot). item_under o.items c.args.n) c.self.view_is

pub returns-clause-items : goal.returns-clause-items
returns-clause-items g c =
    let slots = c.self.inside.slots in
    let t = c.take_at.ensures in
    let left = emptied (c.self.inside.given - deque_len slots) slots.items c.in_ok-place.place c.args.n (omega (arith, c.in_ok-place.ensures, c.len.ensures, slots.ok)) (omega (arith, c.in_ok-place.ensures, c.len.ensures)) in
    c.drop_taken.ensures.items c.self.inside.given (omega (arith, t.len, c.self.invariant.0))
    ∙ ap₂ (λ m (s : List (Option g.row.T.Denot)). items_from (c.self.inside.given - m) s) t.len t.items
    ∙ left
    ∙ ap (λ (o : OpenNumbers g.row.T.Denot). without_number o.items c.args.n) c.self.view_is
