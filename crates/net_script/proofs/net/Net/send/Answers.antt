use Rattle.std.proofs.Common.{◌≡◌, ◌≤◌, ◌+◌, ◌-◌, ◌∷◌, ◌++◌, [], ℕ, List, Option, None, Some, IsTrue, length, ap, sym, subst, ◌∙◌, arith, length-append}
use Rattle.std.specs.VecDeque.{deque_len}
use Rattle.std.proofs.lemmas.Bool.Decides.{nat_tests}
use Rattle.net_script.specs.declared.net.Flying.{Flying}
use Rattle.net_script.specs.Flights.{numbered, starts_full}
use Rattle.net_script.proofs.Flights.{numbered-push_none, numbered-push_some, starts_full-push_none, starts_full-push_some}
use Rattle.net_script.proofs.net.Net.send.Goals as goal

-- one more number was sent, and there is one more slot, which is empty
lost : (sent n n' : ℕ) (s s' : List (Option Flying)) → n' ≡ n + 1 → s' ≡ s ++ None ∷ [] → numbered (sent + 1 - n') s' ≡ numbered (sent - n) s
lost sent n n' s s' e f =
    let gap : sent + 1 - n' ≡ sent - n = omega (arith, e) in
    rw (gap, f) (numbered-push_none (sent - n) s)

-- the same, and it is full
kept : (sent n n' : ℕ) (s s' : List (Option Flying)) (m : Flying) → n ≡ length s → n ≤ sent → n' ≡ n + 1 → s' ≡ s ++ Some m ∷ [] → numbered (sent + 1 - n') s' ≡ numbered (sent - n) s ++ (sent + 1, m) ∷ []
kept sent n n' s s' m l h e f =
    let gap : sent + 1 - n' ≡ sent - n = omega (arith, e) in
    rw (gap, f) (numbered-push_some (sent - n) s m (sent + 1) (omega arith))

pub invariant_of-self-then-self-eq-FLIGHT_LIMIT : goal.invariant_of-self-then-self-eq-FLIGHT_LIMIT
invariant_of-self-then-self-eq-FLIGHT_LIMIT c =
    let i = c.self.invariant in
    let p = c.in_ok-push_back.ensures in
    let same = lost c.self.inside.sent _ _ _ _ p.len p.items in (
      omega (arith, p.len, i.0),
      i.1 ∙ ap length (sym {A = List (ℕ × Flying)} same),
      i.2,
      subst (λ (s : List (Option Flying)). IsTrue (starts_full s)) (sym {A = List (Option Flying)} p.items) (starts_full-push_none (c.self.inside.sent - deque_len c.self.inside.slots) c.self.inside.slots.items i.3 (omega (arith, i.1, c.if-self-eq-FLIGHT_LIMIT.true))),
    )

pub returns-then-self-eq-FLIGHT_LIMIT-clause-flying :
    goal.returns-then-self-eq-FLIGHT_LIMIT-clause-flying
returns-then-self-eq-FLIGHT_LIMIT-clause-flying c =
    let p = c.in_ok-push_back.ensures in
    let same = lost c.self.inside.sent _ _ _ _ p.len p.items in
    grind (arith, nat_tests, same, c.self.view_is, c.self.invariant.1, c.if-self-eq-FLIGHT_LIMIT.true)

pub invariant_of-self-2 : goal.invariant_of-self-2
invariant_of-self-2 c =
    let i = c.self.invariant in
    let p = c.in_ok-push_back-2.ensures in
    let more = kept c.self.inside.sent _ _ _ _ _ c.self.inside.slots.ok.0 i.0 p.len p.items in (
      omega (arith, p.len, i.0),
      grind (arith, i.1, more, length-append),
      omega (arith, i.2, c.if-self-eq-FLIGHT_LIMIT.false),
      subst (λ (s : List (Option Flying)). IsTrue (starts_full s)) (sym {A = List (Option Flying)} p.items) (starts_full-push_some c.self.inside.slots.items _ i.3),
    )

pub returns-clause-flying : goal.returns-clause-flying
returns-clause-flying c =
    let p = c.in_ok-push_back-2.ensures in
    let more = kept c.self.inside.sent _ _ _ _ _ c.self.inside.slots.ok.0 c.self.invariant.0 p.len p.items in
    grind (arith, nat_tests, more, c.self.view_is, c.self.invariant, c.if-self-eq-FLIGHT_LIMIT.false)
