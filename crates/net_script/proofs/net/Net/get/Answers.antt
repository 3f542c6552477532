use Rattle.std.proofs.Common.{◌≡◌, ◌-◌, None, get_or, arith, length}
use Rattle.net_script.specs.Flights.{numbered}
use Rattle.net_script.specs.Network.{flying_message}
use Rattle.net_script.proofs.Flights.{message_of-missing, message_of-slot}
use Rattle.net_script.proofs.net.Net.get.Goals as goal

pub returns-in_err-place : goal.returns-in_err-place
returns-in_err-place c =
    let len : c.len.result ≡ length c.self.inside.slots.items = omega (arith, c.len.ensures, c.self.inside.slots.ok) in
    let none : flying_message c.args.id (numbered (c.self.inside.sent - c.len.result) c.self.inside.slots.items) ≡ None =
    message_of-missing c.self.inside.sent c.len.result c.self.inside.slots.items c.args.id len (omega (arith, c.len.ensures, c.self.invariant.0)) c.in_err-place.ensures in
    grind (arith, none, c.len.ensures, c.self.view_is, c.from_residual.ensures)

pub returns : goal.returns
returns c =
    let len : c.len.result ≡ length c.self.inside.slots.items = omega (arith, c.len.ensures, c.self.inside.slots.ok) in
    let in_slots = c.in_ok-place.ensures in
    let found : flying_message c.args.id (numbered (c.self.inside.sent - c.len.result) c.self.inside.slots.items) ≡ get_or c.self.inside.slots.items c.in_ok-place.place c.index.result.now =
    message_of-slot (c.self.inside.sent - c.len.result) c.self.inside.slots.items c.in_ok-place.place c.args.id c.index.result.now (omega arith) (omega arith) in
    grind (arith, found, c.len.ensures, c.self.view_is, c.as_ref.ensures.value, c.index.ensures)
