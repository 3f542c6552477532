-- The messages in slots, behind their numbers.
use Rattle.std.proofs.Common.{◌≡◌, ◌<◌, ◌≤◌, ◌+◌, ◌-◌, ℕ, zero, suc, List, [], ◌∷◌, ◌++◌, All, AllPairs, length, get_or, set, Option, Some, None, IsTrue, refl, sym, ap, ◌⊎◌, inl, inr, arith, add-one}
use Rattle.std.proofs.lemmas.Bool.Decides.{nat_tests}
use Rattle.net_script.specs.declared.net.Flying.{Flying}
use Rattle.std.proofs.lemmas.List.Elements.{All-nil, All-cons}
use Rattle.std.proofs.lemmas.List.Kept.{AllPairs-cons}
use Rattle.net_script.specs.Flights.{numbered, starts_full}
use Rattle.net_script.specs.Network.{AreNumbers, flying_ids, flying_message, flying_without}

-- a number up to those sent before has no message
pub message_of-early : (b : ℕ) (s : List (Option Flying)) (id : ℕ) → id ≤ b → flying_message id (numbered b s) ≡ None
message_of-early b [] id h = refl
message_of-early b (None ∷ s) id h = message_of-early (b + 1) s id (omega arith)
message_of-early b (Some m ∷ s) id h =
    let r : flying_message id (numbered (b + 1) s) ≡ None = message_of-early (b + 1) s id (omega arith) in
    grind (arith, nat_tests, r)

-- nor has one past the last slot
pub message_of-late : (b : ℕ) (s : List (Option Flying)) (id : ℕ) → b + length s < id → flying_message id (numbered b s) ≡ None
message_of-late b [] id h = refl
message_of-late b (None ∷ s) id h = message_of-late (b + 1) s id (omega arith)
message_of-late b (Some m ∷ s) id h =
    let r : flying_message id (numbered (b + 1) s) ≡ None = message_of-late (b + 1) s id (omega arith) in
    grind (arith, nat_tests, r)

-- a number of a slot has the message of that slot
pub message_of-slot : (b : ℕ) (s : List (Option Flying)) (i id : ℕ) (d : Option Flying) → i < length s → id ≡ b + 1 + i → flying_message id (numbered b s) ≡ get_or s i d
message_of-slot b [] i id d h e = absurd (omega arith)
message_of-slot b (None ∷ s) zero id d h e = message_of-early (b + 1) s id (omega arith)
message_of-slot b (Some m ∷ s) zero id d h e = grind (arith, nat_tests)
message_of-slot b (None ∷ s) (suc i) id d h e = message_of-slot (b + 1) s i id d (omega arith) (omega arith)
message_of-slot b (Some m ∷ s) (suc i) id d h e =
    let r : flying_message id (numbered (b + 1) s) ≡ get_or s i d = message_of-slot (b + 1) s i id d (omega arith) (omega arith) in
    grind (arith, nat_tests, r)

-- without a number that has no message all stay
pub without-missing : (id : ℕ) (es : List (ℕ × Flying)) → flying_message id es ≡ None → flying_without id es ≡ es
without-missing id [] h = refl
without-missing id (e ∷ es) h = grind (arith, nat_tests, without-missing id es)

-- a slot that is emptied leaves the messages of the others
pub numbered-emptied : (b : ℕ) (s : List (Option Flying)) (i id : ℕ) → i < length s → id ≡ b + 1 + i → numbered b (set s i None) ≡ flying_without id (numbered b s)
numbered-emptied b [] i id h e = absurd (omega arith)
numbered-emptied b (None ∷ s) zero id h e = sym (without-missing id (numbered (b + 1) s) (message_of-early (b + 1) s id (omega arith)))
numbered-emptied b (Some m ∷ s) zero id h e =
    let r : flying_without id (numbered (b + 1) s) ≡ numbered (b + 1) s = without-missing id (numbered (b + 1) s) (message_of-early (b + 1) s id (omega arith)) in
    grind (arith, nat_tests, r)
numbered-emptied b (None ∷ s) (suc i) id h e = numbered-emptied (b + 1) s i id (omega arith) (omega arith)
numbered-emptied b (Some m ∷ s) (suc i) id h e =
    let r : numbered (b + 1) (set s i None) ≡ flying_without id (numbered (b + 1) s) = numbered-emptied (b + 1) s i id (omega arith) (omega arith) in
    grind (arith, nat_tests, r)

-- with a message taken out there is one less
pub length-emptied : (b : ℕ) (s : List (Option Flying)) (i : ℕ) (m : Flying) → i < length s → get_or s i None ≡ Some m → length (numbered b (set s i None)) + 1 ≡ length (numbered b s)
length-emptied b [] i m h e = absurd (omega arith)
length-emptied b (None ∷ s) zero m h e = absurd (cc)
length-emptied b (Some l ∷ s) zero m h e = add-one _
length-emptied b (None ∷ s) (suc i) m h e = length-emptied (b + 1) s i m (omega arith) e
length-emptied b (Some l ∷ s) (suc i) m h e =
    let r : length (numbered (b + 1) (set s i None)) + 1 ≡ length (numbered (b + 1) s) = length-emptied (b + 1) s i m (omega arith) e in
    omega (arith, r)

-- an empty slot at the end adds nothing
pub numbered-push_none : (b : ℕ) (s : List (Option Flying)) → numbered b (s ++ None ∷ []) ≡ numbered b s
numbered-push_none b [] = refl
numbered-push_none b (None ∷ s) = numbered-push_none (b + 1) s
numbered-push_none b (Some m ∷ s) = ap (λ (es : List (ℕ × Flying)). (b + 1, m) ∷ es) (numbered-push_none (b + 1) s)

-- a full slot at the end adds its message under the next number
pub numbered-push_some : (b : ℕ) (s : List (Option Flying)) (m : Flying) (id : ℕ) → id ≡ b + length s + 1 → numbered b (s ++ Some m ∷ []) ≡ numbered b s ++ (id, m) ∷ []
numbered-push_some b [] m id e = ap (λ (n : ℕ). (n, m) ∷ []) (omega arith)
numbered-push_some b (None ∷ s) m id e = numbered-push_some (b + 1) s m id (omega arith)
numbered-push_some b (Some l ∷ s) m id e = ap (λ (es : List (ℕ × Flying)). (b + 1, l) ∷ es) (numbered-push_some (b + 1) s m id (omega arith))

pub starts_full-push_some : (s : List (Option Flying)) (m : Flying) → IsTrue (starts_full s) → IsTrue (starts_full (s ++ Some m ∷ []))
starts_full-push_some [] m h = h
starts_full-push_some (None ∷ s) m h = h
starts_full-push_some (Some l ∷ s) m h = h

pub starts_full-push_none : (b : ℕ) (s : List (Option Flying)) → IsTrue (starts_full s) → 0 < length (numbered b s) → IsTrue (starts_full (s ++ None ∷ []))
starts_full-push_none b [] h n = absurd (omega arith)
starts_full-push_none b (None ∷ s) h n = h
starts_full-push_none b (Some l ∷ s) h n = h

ids-above : (b c : ℕ) (s : List (Option Flying)) → c ≤ b
    → All (λ i. c < i) (flying_ids (numbered b s))
ids-above b c [] h = All-nil (λ i. c < i)
ids-above b c (None ∷ s) h = ids-above (b + 1) c s (omega arith)
ids-above b c (Some m ∷ s) h = All-cons (λ i. c < i) (b + 1) (flying_ids (numbered (b + 1) s)) (omega arith) (ids-above (b + 1) c s (omega arith))

ids-upto : (b c : ℕ) (s : List (Option Flying)) → b + length s ≤ c → All (λ i. i ≤ c) (flying_ids (numbered b s))
ids-upto b c [] h = All-nil (λ i. i ≤ c)
ids-upto b c (None ∷ s) h = ids-upto (b + 1) c s (omega arith)
ids-upto b c (Some m ∷ s) h = All-cons (λ i. i ≤ c) (b + 1) (flying_ids (numbered (b + 1) s)) (omega arith) (ids-upto (b + 1) c s (omega arith))

ids-rising : (b : ℕ) (s : List (Option Flying))
    → AllPairs (λ i j. i < j) (flying_ids (numbered b s))
ids-rising b [] = λ i j d h k. absurd (omega arith)
ids-rising b (None ∷ s) = ids-rising (b + 1) s
ids-rising b (Some m ∷ s) = AllPairs-cons (λ i j. i < j) (b + 1) (flying_ids (numbered (b + 1) s)) (ids-above (b + 1) (b + 1) s (omega arith)) (ids-rising (b + 1) s)

-- the numbers of the slots' messages rise
pub are_numbers : (b last : ℕ) (s : List (Option Flying)) → b + length s ≤ last → AreNumbers last (flying_ids (numbered b s))
are_numbers b last s h = record { rising = ids-rising b s; from_one = ids-above b 0 s (omega arith); to_last = ids-upto b last s h }

-- of so many slots, of the last numbers sent, none is this number's
pub message_of-missing : (sent n : ℕ) (s : List (Option Flying)) (id : ℕ) → n ≡ length s → n ≤ sent → (id ≤ sent - n) ⊎ (sent < id) → flying_message id (numbered (sent - n) s) ≡ None
message_of-missing sent n s id e l (inl h) = message_of-early (sent - n) s id h
message_of-missing sent n s id e l (inr h) = message_of-late (sent - n) s id (omega arith)
