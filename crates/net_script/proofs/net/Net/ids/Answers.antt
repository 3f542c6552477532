use Rattle.std.proofs.Common.{◌≡◌, ◌-◌, ℕ, List, length, Result, Ok, Err, IfOk, sym, subst, arith}
use Rattle.net_script.specs.Network.{AreNumbers, flying_ids}
use Rattle.net_script.specs.Flights.{numbered}
use Rattle.net_script.proofs.Flights.{are_numbers}
use Rattle.net_script.proofs.net.Net.ids.Goals as goal

if_numbers : {E : Type 0} (last : ℕ) (ids : List ℕ) (r : Result (List ℕ) E) → AreNumbers last ids → IfOk r (λ l. l ≡ ids) → IfOk r (AreNumbers last)
if_numbers last ids (Ok l) h e = subst (AreNumbers last) (sym e) h
if_numbers last ids (Err f) h e = e

pub returns-clause-numbers : goal.returns-clause-numbers
returns-clause-numbers c =
    let len : c.len.result ≡ length c.self.inside.slots.items = omega (arith, c.len.ensures, c.self.inside.slots.ok) in
    let h : AreNumbers c.self.inside.sent (flying_ids (numbered (c.self.inside.sent - c.len.result) c.self.inside.slots.items)) =
    are_numbers (c.self.inside.sent - c.len.result) c.self.inside.sent c.self.inside.slots.items (omega (arith, len, c.len.ensures, c.self.invariant.0)) in
    rw (← c.self.view_is) (if_numbers c.self.inside.sent _ c.numbers.result h c.numbers.ensures)
