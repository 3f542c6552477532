use Rattle.std.proofs.Common.{◌-◌, None, sym, ◌∙◌, arith}
use Rattle.std.specs.VecDeque.{deque_len}
use Rattle.net_script.proofs.Flights.{length-emptied, message_of-missing, message_of-slot, numbered-emptied, without-missing}
use Rattle.net_script.proofs.net.Net.take.Goals as goal

pub returns-in_err-place-clause-message : goal.returns-in_err-place-clause-message
returns-in_err-place-clause-message c =
    let none = message_of-missing c.self.inside.sent c.len.result c.self.inside.slots.items c.args.id (omega (arith, c.len.ensures, c.self.inside.slots.ok)) (omega (arith, c.len.ensures, c.self.invariant.0)) c.in_err-place.ensures in
    grind (arith, none, c.len.ensures, c.self.view_is, c.from_residual.ensures)

pub returns-in_err-place-clause-flying : goal.returns-in_err-place-clause-flying
returns-in_err-place-clause-flying c =
    let none = message_of-missing c.self.inside.sent c.len.result c.self.inside.slots.items c.args.id (omega (arith, c.len.ensures, c.self.inside.slots.ok)) (omega (arith, c.len.ensures, c.self.invariant.0)) c.in_err-place.ensures in
    let all = without-missing c.args.id _ none in
    grind (arith, all, c.len.ensures, c.self.view_is)

pub returns-in_err-flying-clause-message : goal.returns-in_err-flying-clause-message
returns-in_err-flying-clause-message c =
    let p = c.in_ok-place.ensures in
    let found = message_of-slot (c.self.inside.sent - c.len.result) c.self.inside.slots.items c.in_ok-place.place c.args.id None (omega (arith, p, c.len.ensures, c.self.inside.slots.ok)) p.1 in
    grind (arith, found, c.len.ensures, c.self.view_is, c.from_residual-in_err-flying.ensures, c.in_err-flying.was, c.take_at.ensures.message)

pub returns-in_err-flying-clause-flying : goal.returns-in_err-flying-clause-flying
returns-in_err-flying-clause-flying c =
    let p = c.in_ok-place.ensures in
    let left = numbered-emptied (c.self.inside.sent - c.len.result) c.self.inside.slots.items c.in_ok-place.place c.args.id (omega (arith, p, c.len.ensures, c.self.inside.slots.ok)) p.1 in
    grind (arith, left, c.len.ensures, c.self.view_is, c.take_at.ensures.items, c.take_at.ensures.len)

pub invariant_of-self-2 : goal.invariant_of-self-2
invariant_of-self-2 c =
    let i = c.self.invariant in
    let p = c.in_ok-place.ensures in
    let t = c.take_at.ensures in
    let d = c.drop_taken.ensures in
    let same = d.same c.self.inside.sent (omega (arith, t.len, i.0)) in
    let less = length-emptied (c.self.inside.sent - deque_len c.self.inside.slots) c.self.inside.slots.items c.in_ok-place.place c.in_ok-flying.flying (omega (arith, p, c.len.ensures, c.self.inside.slots.ok)) (sym t.message ∙ c.in_ok-flying.was) in (
      omega (arith, d.len, t.len, i.0),
      grind (arith, same, less, i.1, t.items, t.len),
      omega (arith, i.2),
      d.first,
    )

pub returns-clause-message : goal.returns-clause-message
returns-clause-message c =
    let p = c.in_ok-place.ensures in
    let found = message_of-slot (c.self.inside.sent - c.len.result) c.self.inside.slots.items c.in_ok-place.place c.args.id None (omega (arith, p, c.len.ensures, c.self.inside.slots.ok)) p.1 in
    grind (arith, found, c.len.ensures, c.self.view_is, c.in_ok-flying.was, c.take_at.ensures.message)

pub returns-clause-flying : goal.returns-clause-flying
returns-clause-flying c =
    let p = c.in_ok-place.ensures in
    let t = c.take_at.ensures in
    let same = c.drop_taken.ensures.same c.self.inside.sent (omega (arith, t.len, c.self.invariant.0)) in
    let left = numbered-emptied (c.self.inside.sent - c.len.result) c.self.inside.slots.items c.in_ok-place.place c.args.id (omega (arith, p, c.len.ensures, c.self.inside.slots.ok)) p.1 in
    grind (arith, same, left, c.len.ensures, c.self.view_is, t.items, t.len)
