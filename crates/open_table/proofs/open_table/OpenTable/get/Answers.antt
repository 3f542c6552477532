use Rattle.std.proofs.Common.{◌≡◌, ◌-◌, None, get_or, arith}
use Rattle.request_rules.specs.ByNumber.{item_under}
use Rattle.open_table.specs.Slots.{items_from}
use Rattle.open_table.proofs.SlotLaws.{in_no_slot, in_slot}
use Rattle.open_table.proofs.open_table.OpenTable.get.Goals as goal

pub returns-in_err-place : goal.returns-in_err-place
returns-in_err-place g c =
    let slots = c.self.inside.slots in
    let none : item_under (items_from (c.self.inside.given - c.len.result) slots.items) c.args.n ≡ None = in_no_slot c.self.inside.given c.len.result slots.items c.args.n (omega (arith, c.len.ensures, slots.ok)) (omega (arith, c.len.ensures, c.self.invariant.0)) c.in_err-place.ensures in
    grind (arith, none, c.len.ensures, c.self.view_is, c.from_residual.ensures)

pub returns : goal.returns
returns g c =
    let slots = c.self.inside.slots in
    let in_slots = c.in_ok-place.ensures in
    let found : item_under (items_from (c.self.inside.given - c.len.result) slots.items) c.args.n ≡ get_or slots.items c.in_ok-place.place c.index.result.now =
    in_slot (c.self.inside.given - c.len.result) slots.items c.in_ok-place.place c.args.n c.index.result.now (omega (arith, c.len.ensures, slots.ok)) (omega arith) in
    grind (arith, found, c.len.ensures, c.self.view_is, c.as_ref.ensures.value, c.index.ensures)
