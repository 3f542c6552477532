-- What is found on a network after a message is sent or taken.
use Rattle.std.proofs.Common.{◌≡◌, ◌<◌, ◌≤◌, ◌+◌, ◌==◌, ℕ, List, [], ◌∷◌, ◌++◌, All, if◌then◌else◌, true, Some, None, arith}
use Rattle.std.proofs.lemmas.Bool.Decides.{nat_tests}
use Rattle.std.proofs.lemmas.List.Elements.{All-head, All-tail}
use Rattle.cluster_types.specs.Distinct.{AreDistinct}
use Rattle.net_script.specs.declared.net.Flying.{Flying}
use Rattle.net_script.specs.Network.{AreNumbers, NetworkState, has_flight_place, flying_ids, flying_message, with_next, flying_without}

-- a message that was taken is gone, and every other one stays
pub message_of-without : (i j : ℕ) (es : List (ℕ × Flying)) → flying_message j (flying_without i es) ≡ (if j == i then None else flying_message j es)
message_of-without i j [] = grind (arith, nat_tests)
message_of-without i j (e ∷ es) = grind (arith, nat_tests, message_of-without i j es)

-- a number above all others finds what stands last under it
message_of-last : (last id : ℕ) (es : List (ℕ × Flying)) (m : Flying) → last < id → All (λ i. i ≤ last) (flying_ids es) → flying_message id (es ++ (id, m) ∷ []) ≡ Some m
message_of-last last id [] m l h = grind (arith, nat_tests)
message_of-last last id (e ∷ es) m l h =
    let r : flying_message id (es ++ (id, m) ∷ []) ≡ Some m = message_of-last last id es m l (All-tail (λ i. i ≤ last) e.0 (flying_ids es) h) in
    let above : e.0 ≤ last = All-head (λ i. i ≤ last) e.0 (flying_ids es) h in
    grind (arith, nat_tests, r, above)

-- a message that is added under another number plays no part
message_of-before : (j id : ℕ) (es : List (ℕ × Flying)) (m : Flying) → j < id → flying_message j (es ++ (id, m) ∷ []) ≡ flying_message j es
message_of-before j id [] m l = grind (arith, nat_tests)
message_of-before j id (e ∷ es) m l = grind (arith, nat_tests, message_of-before j id es m l)

-- a message that is kept is found under its number
pub message_of-next : (n : NetworkState) (m : Flying) → AreNumbers n.sent (flying_ids n.flying) → has_flight_place n.flying ≡ true → flying_message (n.sent + 1) (with_next n m) ≡ Some m
message_of-next n m h p = rw p (message_of-last n.sent (n.sent + 1) n.flying m (omega arith) h.to_last)

-- and every other one is found as before
pub message_of-others : (n : NetworkState) (m : Flying) (j : ℕ) → j ≤ n.sent → flying_message j (with_next n m) ≡ flying_message j n.flying
message_of-others n m j l = grind (arith, nat_tests, message_of-before j (n.sent + 1) n.flying m (omega arith))

-- no number stands twice
pub numbers_differ : (last : ℕ) (ids : List ℕ) → AreNumbers last ids → AreDistinct ids
numbers_differ last ids h = record { differ = λ i j d l k. omega (arith, h.rising i j d l k) }
