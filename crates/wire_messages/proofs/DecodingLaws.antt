-- What holds of all messages and their bytes.
use Rattle.std.proofs.Common.{◌≡◌, ℕ, zero, suc, ◌<◌, true, List, [], ◌∷◌, ◌++◌, length, take, Option, Some, None, Result, Ok, Err, refl, sym, ap, subst, ◌∙◌, arith, inl, inr}
use Rattle.std.specs.Prelude.{nat_lt}
use Rattle.std.specs.Result.{result_ok}
use Rattle.std.proofs.lemmas.Bool.{ltb-true, lt-ltb, and_parts, and_from}
use Rattle.std.proofs.lemmas.List.{append-nil}
use Rattle.wire_messages.specs.declared.message.Message.{Message}
use Rattle.wire_messages.specs.declared.fault.DecodeFault.{DecodeFault}
use Rattle.wire_messages.specs.declared.fault.DecodeFault.TheVariants as fault
use Rattle.wire_messages.specs.declared.fault.FieldFault.{FieldFault}
use Rattle.wire_messages.specs.declared.fault.FieldFault.TheVariants.{Bad, Short}
use Rattle.wire_messages.specs.Kinds.{kind_of}
use Rattle.wire_messages.specs.Decoding.{alone, whole, of_kind, decoded, are_bytes, message_of}
use Rattle.wire_messages.specs.Proper.{IsProper}
use Rattle.wire_messages.specs.Spelling.{spelling}
use Rattle.wire_messages.proofs.Forms.{IsBytes, Small, chosen}
use Rattle.wire_messages.proofs.SpelledKinds.{spelled_of}
use Rattle.wire_messages.proofs.TakenKinds.{kind_takes}

-- ---- bytes

small_are : (bytes : List ℕ) → Small bytes → are_bytes bytes ≡ true
small_are [] h = refl
small_are (b ∷ bytes) h = and_from (nat_lt b 256) (are_bytes bytes) (lt-ltb b 256 h.0) (small_are bytes h.1)

pub are_small : (bytes : List ℕ) → are_bytes bytes ≡ true → Small bytes
are_small [] e = tt
are_small (b ∷ bytes) e = let p = and_parts (nat_lt b 256) (are_bytes bytes) e in (ltb-true b 256 p.0, are_small bytes p.1)

small_fit : (bytes : List ℕ) → Small bytes → IsBytes bytes
small_fit [] h i = omega arith
small_fit (b ∷ bytes) h zero = h.0
small_fit (b ∷ bytes) h (suc i) = small_fit bytes h.1 i

pub spelling_small : (m : Message) → IsProper m → Small (spelling m)
spelling_small m p = let s = spelled_of m p in subst Small (sym s.spelled) s.small

pub spelling_bytes : (m : Message) → IsProper m → are_bytes (spelling m) ≡ true
spelling_bytes m p = small_are (spelling m) (spelling_small m p)

-- ---- a message, and what follows it

pub decoded_with : (m : Message) (rest : List ℕ) → IsProper m → decoded (spelling m ++ rest) ≡ alone m rest
unfolding decoded
decoded_with m rest p =
    let s = spelled_of m p in
    ap (λ t. decoded (t ++ rest)) s.spelled
    ∙ ap (λ r. of_kind s.kind (s.text ++ rest) r) s.known
    ∙ ap (λ r. whole (suc (length (s.text ++ rest))) r) (s.again rest)

pub decoded_again : (m : Message) → IsProper m → decoded (spelling m) ≡ Ok m
decoded_again m p = ap decoded (sym (append-nil (spelling m))) ∙ decoded_with m [] p

pub read_back : (m : Message) → IsProper m → message_of (spelling m) ≡ Some m
unfolding message_of
read_back m p = rw (spelling_bytes m p, decoded_again m p) refl

-- ---- what was read

alone_ok : (m : Message) (rest : List ℕ) (n : Message) → alone m rest ≡ Ok n → (m ≡ n) × (rest ≡ [])
alone_ok m [] n e = (cc, refl)
alone_ok m (b ∷ rest) n e = absurd cc

pub record Whole (size : ℕ) (read : Result (Message × List ℕ) FieldFault) (m : Message) : Type 0 where
  pub is : read ≡ Ok (m, [])

whole_ok : (size : ℕ) (read : Result (Message × List ℕ) FieldFault) (m : Message) → whole size read ≡ Ok m → Whole size read m
whole_ok size (Ok x) m e =
    let a = alone_ok x.0 x.1 m e in
    record { is = λ i. Ok (a.0 i, a.1 i) }
whole_ok size (Err (Bad left)) m e = absurd cc
whole_ok size (Err Short) m e = absurd cc

pub decoded_spelled : (bytes : List ℕ) (m : Message) → Small bytes → decoded bytes ≡ Ok m → IsProper m × (spelling m ≡ bytes)
unfolding decoded
decoded_spelled [] m h e = absurd cc
decoded_spelled (kind ∷ fields) m h e = known (kind_of kind) refl e
  where
    known : (o : Option (List ℕ → Result (Message × List ℕ) FieldFault)) → kind_of kind ≡ o → of_kind kind fields o ≡ Ok m → IsProper m × (spelling m ≡ kind ∷ fields)
    known None is e = absurd cc
    known (Some read) is e =
        let w = whole_ok (suc (length fields)) (read fields) m e in
        let t = kind_takes kind read is fields m [] (small_fit fields h.1) w.is in
        (t.proper, sym (append-nil (spelling m)) ∙ sym t.parts)

some_ok : (r : Result Message DecodeFault) (m : Message) → result_ok r ≡ Some m → r ≡ Ok m
some_ok (Ok n) m e = cc
some_ok (Err f) m e = absurd cc

pub what_is_read : (bytes : List ℕ) (m : Message) → message_of bytes ≡ Some m → IsProper m × (spelling m ≡ bytes)
unfolding message_of
what_is_read bytes m e =
    elim (chosen (are_bytes bytes) _ _ _ e) [
      | inl small ↦ decoded_spelled bytes m (are_small bytes small.0) (some_ok (decoded bytes) m small.1)
      | inr other ↦ absurd (let never : None ≡ Some m = other.1 in cc)
    ]

-- ---- beginnings

pub no_prefix : (m n : Message) (rest : List ℕ) → IsProper m → IsProper n → spelling m ++ rest ≡ spelling n → (rest ≡ []) × (m ≡ n)
no_prefix m n rest p q e =
    let a = alone_ok m rest n (sym (decoded_with m rest p) ∙ ap decoded e ∙ decoded_again n q) in
    (a.1, a.0)

pub cut_short : (m : Message) (k : ℕ) → IsProper m → k < length (spelling m) → decoded (take k (spelling m)) ≡ Err fault.Short
unfolding decoded
cut_short m k p lt =
    let s = spelled_of m p in
    ap (λ t. decoded (take k t)) s.spelled ∙ at k (subst (λ t. k < length t) s.spelled lt)
  where
    at : (k : ℕ) → k < length ((spelled_of m p).kind ∷ (spelled_of m p).text) → decoded (take k ((spelled_of m p).kind ∷ (spelled_of m p).text)) ≡ Err fault.Short
    at zero lt = refl
    at (suc j) lt =
        let s = spelled_of m p in
        ap (λ r. of_kind s.kind (take j s.text) r) s.known
        ∙ ap (λ r. whole (suc (length (take j s.text))) r) (s.cut j (omega (arith, lt)))

pub one_more : (m : Message) (b : ℕ) (rest : List ℕ) → IsProper m → decoded (spelling m ++ b ∷ rest) ≡ Err (fault.Long (length (b ∷ rest)))
one_more m b rest p = decoded_with m (b ∷ rest) p
