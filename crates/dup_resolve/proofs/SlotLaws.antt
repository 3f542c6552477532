-- The transactions in slots, by their numbers.
use Rattle.std.proofs.Common.{◌≡◌, ◌==◌, ◌<◌, ◌≤◌, ◌+◌, ◌-◌, ℕ, zero, suc, Bool, true, false, cond, List, [], ◌∷◌, ◌++◌, All, AllPairs, length, get_or, set, slice_get, subst, Option, Some, None, IsTrue, refl, sym, ap, ◌∙◌, ◌⊎◌, inl, inr, arith}
use Rattle.std.proofs.lemmas.Bool.Decides.{nat_tests}
use Rattle.std.proofs.lemmas.List.Elements.{All-nil, All-cons}
use Rattle.std.proofs.lemmas.List.Kept.{AllPairs-cons}
use Rattle.std.specs.Option.{option_map}
use Rattle.std.proofs.lemmas.Bool.Decides.{eqb_tells}
use Rattle.std.proofs.lemmas.List.{length-set, get_or-set_same}
use Rattle.std.proofs.lemmas.Option.{slice_get-get_or}
use Rattle.node_rules.specs.Tables.{changed_if}
use Rattle.dup_resolve.specs.declared.txn.Txn.{Txn}
use Rattle.dup_resolve.specs.Open.{txn_at, without_txn, change_txn, txn_awaits_ack, txn_awaits_answer, txn_acknowledged, acknowledged_if, txn_answered, answered_if}
use Rattle.conflict_order.specs.declared.policy.Policy.{Policy}
use Rattle.conflict_order.specs.declared.version.Version.{Version}
use Rattle.dup_resolve.specs.Places.{running_of, starts_with_txn, AreNumbered, AreRisingUpTo}

some_is : (o p : Option Txn) → Some o ≡ Some p → o ≡ p
some_is o p e = cc

some_txn : (t u : Txn) → Some t ≡ Some u → t ≡ u
some_txn t u e = cc

false_is_false : IsTrue false → ⊥
false_is_false h = cc h

slice_get_set_same : (s : List (Option Txn)) (i j : ℕ) (o : Option Txn) → j ≡ i → i < length s → slice_get (set s i o) j ≡ Some o
slice_get_set_same s i j o e l =
    ap (slice_get (set s i o)) e
    ∙ slice_get-get_or (set s i o) i o (omega (arith, length-set s i o))
    ∙ ap Some (get_or-set_same s i o o l)

slice_get_set_other : (s : List (Option Txn)) (i j : ℕ) (o : Option Txn) → (j ≡ i → ⊥) → slice_get (set s i o) j ≡ slice_get s j
slice_get_set_other [] i j o other = refl
slice_get_set_other (x ∷ s) zero zero o other = absurd (other refl)
slice_get_set_other (x ∷ s) zero (suc j) o other = refl
slice_get_set_other (x ∷ s) (suc i) zero o other = refl
slice_get_set_other (x ∷ s) (suc i) (suc j) o other = slice_get_set_other s i j o (λ e. other (ap suc e))

head_number : (b : ℕ) (t : Txn) (s : List (Option Txn)) → AreNumbered b (Some t ∷ s) → t.id ≡ b + 1
head_number b t s h = omega (arith, h.at 0 t refl)

tail_numbers : (b : ℕ) (o : Option Txn) (s : List (Option Txn)) → AreNumbered b (o ∷ s) → AreNumbered (b + 1) s
tail_numbers b o s h = record { at = λ i t e. omega (arith, h.at (suc i) t e) }

-- a number up to those before the first slot is no transaction's
pub early : (b : ℕ) (s : List (Option Txn)) (id : ℕ) → AreNumbered b s → id ≤ b → txn_at (running_of s) id ≡ None
early b [] id h l = refl
early b (None ∷ s) id h l = early (b + 1) s id (tail_numbers b None s h) (omega arith)
early b (Some t ∷ s) id h l =
    let r : txn_at (running_of s) id ≡ None = early (b + 1) s id (tail_numbers b (Some t) s h) (omega arith) in
    let n : t.id ≡ b + 1 = head_number b t s h in
    grind (arith, nat_tests, r, n)

-- nor is one past the last slot
pub late : (b : ℕ) (s : List (Option Txn)) (id : ℕ) → AreNumbered b s → b + length s < id → txn_at (running_of s) id ≡ None
late b [] id h l = refl
late b (None ∷ s) id h l = late (b + 1) s id (tail_numbers b None s h) (omega arith)
late b (Some t ∷ s) id h l =
    let r : txn_at (running_of s) id ≡ None = late (b + 1) s id (tail_numbers b (Some t) s h) (omega arith) in
    let n : t.id ≡ b + 1 = head_number b t s h in
    grind (arith, nat_tests, r, n)

-- a number of a slot is that slot's transaction's
pub in_slot : (b : ℕ) (s : List (Option Txn)) (i id : ℕ) (d : Option Txn) → AreNumbered b s → i < length s → id ≡ b + 1 + i → txn_at (running_of s) id ≡ get_or s i d
in_slot b [] i id d h l e = absurd (omega arith)
in_slot b (None ∷ s) zero id d h l e = early (b + 1) s id (tail_numbers b None s h) (omega arith)
in_slot b (Some t ∷ s) zero id d h l e =
    let n : t.id ≡ b + 1 = head_number b t s h in
    grind (arith, nat_tests, n)
in_slot b (None ∷ s) (suc i) id d h l e = in_slot (b + 1) s i id d (tail_numbers b None s h) (omega arith) (omega arith)
in_slot b (Some t ∷ s) (suc i) id d h l e =
    let r : txn_at (running_of s) id ≡ get_or s i d = in_slot (b + 1) s i id d (tail_numbers b (Some t) s h) (omega arith) (omega arith) in
    let n : t.id ≡ b + 1 = head_number b t s h in
    grind (arith, nat_tests, r, n)

-- of so many slots, of the last numbers given, none is this number's
pub in_no_slot : (opened n : ℕ) (s : List (Option Txn)) (id : ℕ) → AreNumbered (opened - n) s → n ≡ length s → n ≤ opened → (id ≤ opened - n) ⊎ (opened < id) → txn_at (running_of s) id ≡ None
in_no_slot opened n s id h e l (inl k) = early (opened - n) s id h k
in_no_slot opened n s id h e l (inr k) = late (opened - n) s id h (omega arith)

-- where none has the number, all stay
pub closing_missing : (ts : List Txn) (id : ℕ) → txn_at ts id ≡ None → without_txn ts id ≡ ts
closing_missing [] id h = refl
closing_missing (t ∷ ts) id h = grind (arith, nat_tests, closing_missing ts id)

change_none : (t : Txn) (ts : List Txn) (id : ℕ) (f : Txn → Txn) (b : Bool) → (txn_at ts id ≡ None → change_txn ts id f ≡ ts)
    → cond b (Some t) (txn_at ts id) ≡ None → changed_if f t b ∷ change_txn ts id f ≡ t ∷ ts
change_none t ts id f true rest e = cc
change_none t ts id f false rest e = ap (λ us. t ∷ us) (rest e)

pub changing_missing : (ts : List Txn) (id : ℕ) (f : Txn → Txn) → txn_at ts id ≡ None → change_txn ts id f ≡ ts
changing_missing [] id f h = refl
changing_missing (t ∷ ts) id f h = change_none t ts id f (t.id == id) (changing_missing ts id f) h

-- a slot that is emptied leaves the transactions of the others
pub emptied : (b : ℕ) (s : List (Option Txn)) (i id : ℕ) → AreNumbered b s → i < length s → id ≡ b + 1 + i → running_of (set s i None) ≡ without_txn (running_of s) id
emptied b [] i id h l e = absurd (omega arith)
emptied b (None ∷ s) zero id h l e = sym (closing_missing (running_of s) id (early (b + 1) s id (tail_numbers b None s h) (omega arith)))
emptied b (Some t ∷ s) zero id h l e =
    let r : without_txn (running_of s) id ≡ running_of s = closing_missing (running_of s) id (early (b + 1) s id (tail_numbers b (Some t) s h) (omega arith)) in
    let n : t.id ≡ b + 1 = head_number b t s h in
    grind (arith, nat_tests, r, n)
emptied b (None ∷ s) (suc i) id h l e = emptied (b + 1) s i id (tail_numbers b None s h) (omega arith) (omega arith)
emptied b (Some t ∷ s) (suc i) id h l e =
    let r : running_of (set s i None) ≡ without_txn (running_of s) id = emptied (b + 1) s i id (tail_numbers b (Some t) s h) (omega arith) (omega arith) in
    let n : t.id ≡ b + 1 = head_number b t s h in
    grind (arith, nat_tests, r, n)

same_number : (a b : ℕ) → a ≡ b → (a == b) ≡ true
same_number a b e = grind (arith, nat_tests)

other_number : (a b : ℕ) → a < b → (a == b) ≡ false
other_number a b l = grind (arith, nat_tests)

-- a change in a slot is a change of its transaction
pub changed : (f : Txn → Txn) (b : ℕ) (s : List (Option Txn)) (i id : ℕ) (d : Option Txn) → AreNumbered b s → i < length s → id ≡ b + 1 + i
    → running_of (set s i (option_map f (get_or s i d))) ≡ change_txn (running_of s) id f
changed f b [] i id d h l e = absurd (omega arith)
changed f b (None ∷ s) zero id d h l e = sym (changing_missing (running_of s) id f (early (b + 1) s id (tail_numbers b None s h) (omega arith)))
changed f b (Some t ∷ s) zero id d h l e =
    let r : running_of s ≡ change_txn (running_of s) id f = sym (changing_missing (running_of s) id f (early (b + 1) s id (tail_numbers b (Some t) s h) (omega arith))) in
    let same : (t.id == id) ≡ true = same_number t.id id (omega (arith, head_number b t s h)) in
    ap (λ us. f t ∷ us) r ∙ ap (λ c. changed_if f t c ∷ change_txn (running_of s) id f) (sym same)
changed f b (None ∷ s) (suc i) id d h l e = changed f (b + 1) s i id d (tail_numbers b None s h) (omega arith) (omega arith)
changed f b (Some t ∷ s) (suc i) id d h l e =
    let r : running_of (set s i (option_map f (get_or s i d))) ≡ change_txn (running_of s) id f = changed f (b + 1) s i id d (tail_numbers b (Some t) s h) (omega arith) (omega arith) in
    let other : (t.id == id) ≡ false = other_number t.id id (omega (arith, head_number b t s h)) in
    ap (λ us. t ∷ us) r ∙ ap (λ c. changed_if f t c ∷ change_txn (running_of s) id f) (sym other)

-- what keeps the number of a slot's transaction, or empties the slot, keeps the numbers
abbrev pub Keeps : Option Txn → Option Txn → Type 0
Keeps old new = (t : Txn) → new ≡ Some t → (u : Txn) × (old ≡ Some u) × (t.id ≡ u.id)

pub numbered_set : (b : ℕ) (s : List (Option Txn)) (i : ℕ) (d o : Option Txn) → AreNumbered b s → i < length s → Keeps (get_or s i d) o → AreNumbered b (set s i o)
numbered_set b s i d o h l keeps = record { at = λ j t e. go j t e (eqb_tells j i) }
  where
    go : (j : ℕ) (t : Txn) → slice_get (set s i o) j ≡ Some (Some t) → ((j == i) ≡ true) × (j ≡ i) ⊎ ((j == i) ≡ false) × (j ≡ i → ⊥) → t.id ≡ b + 1 + j
    go j t e (inl same) =
        let here : o ≡ Some t = some_is _ _ (sym (slice_get_set_same s i j o same.1 l) ∙ e) in
        let k = keeps t here in
        k.2 ∙ h.at j k.0 (slice_get-get_or s j d (omega (arith, same.1)) ∙ ap Some (ap (λ n. get_or s n d) same.1 ∙ k.1))
    go j t e (inr other) = h.at j t (sym (slice_get_set_other s i j o other.1) ∙ e)

pub keeps_none : (o : Option Txn) → Keeps o None
keeps_none o t e = cc

pub keeps_mapped : (f : Txn → Txn) → ((t : Txn) → (f t).id ≡ t.id) → (o : Option Txn) → Keeps o (option_map f o)
keeps_mapped f same None t e = cc
keeps_mapped f same (Some u) t e = (u, refl, ap (λ (x : Txn). x.id) (some_txn _ _ (sym e)) ∙ same u)

-- a transaction that is added has the next number
pub running_push : (s : List (Option Txn)) (t : Txn) → running_of (s ++ Some t ∷ []) ≡ running_of s ++ t ∷ []
running_push [] t = refl
running_push (None ∷ s) t = running_push s t
running_push (Some u ∷ s) t = ap (λ ts. u ∷ ts) (running_push s t)

pub length_running : (s : List (Option Txn)) → length (running_of s) ≤ length s
length_running [] = omega arith
length_running (None ∷ s) = omega (arith, length_running s)
length_running (Some t ∷ s) = omega (arith, length_running s)

above : (b c : ℕ) (s : List (Option Txn)) → AreNumbered b s → c ≤ b → All (λ (t : Txn). c < t.id) (running_of s)
above b c [] h l = All-nil (λ (t : Txn). c < t.id)
above b c (None ∷ s) h l = above (b + 1) c s (tail_numbers b None s h) (omega arith)
above b c (Some t ∷ s) h l = All-cons (λ (t : Txn). c < t.id) t (running_of s) (omega (arith, head_number b t s h)) (above (b + 1) c s (tail_numbers b (Some t) s h) (omega arith))

upto : (b c : ℕ) (s : List (Option Txn)) → AreNumbered b s → b + length s ≤ c → All (λ (t : Txn). t.id ≤ c) (running_of s)
upto b c [] h l = All-nil (λ (t : Txn). t.id ≤ c)
upto b c (None ∷ s) h l = upto (b + 1) c s (tail_numbers b None s h) (omega arith)
upto b c (Some t ∷ s) h l = All-cons (λ (t : Txn). t.id ≤ c) t (running_of s) (omega (arith, head_number b t s h)) (upto (b + 1) c s (tail_numbers b (Some t) s h) (omega arith))

rising : (b : ℕ) (s : List (Option Txn)) → AreNumbered b s → AllPairs (λ (t u : Txn). t.id < u.id) (running_of s)
rising b [] h = λ i j d l k. absurd (omega arith)
rising b (None ∷ s) h = rising (b + 1) s (tail_numbers b None s h)
rising b (Some t ∷ s) h =
    AllPairs-cons (λ (t u : Txn). t.id < u.id) t (running_of s)
    (above (b + 1) t.id s (tail_numbers b (Some t) s h) (omega (arith, head_number b t s h)))
    (rising (b + 1) s (tail_numbers b (Some t) s h))

pub are_rising : (b last : ℕ) (s : List (Option Txn)) → AreNumbered b s → b + length s ≤ last → AreRisingUpTo last (running_of s)
are_rising b last s h l = record { rising = rising b s h; to_last = upto b last s h l }

changed_id : (f : Txn → Txn) → ((t : Txn) → (f t).id ≡ t.id) → (t : Txn) (b : Bool) → (changed_if f t b).id ≡ t.id
changed_id f same t true = same t
changed_id f same t false = refl

pub acknowledged_id : (from : ℕ) (t : Txn) → (acknowledged_if from t).id ≡ t.id
acknowledged_id from t = changed_id (txn_acknowledged from) (λ u. refl) t (txn_awaits_ack t from)

pub answered_id : (by : Policy) (from : ℕ) (v : Option Version) (t : Txn) → (answered_if by from v t).id ≡ t.id
answered_id by from v t = changed_id (txn_answered by from v) (λ u. refl) t
    (txn_awaits_answer t from)

full_set : (f : Txn → Txn) (s : List (Option Txn)) (i : ℕ) (d : Option Txn) → IsTrue (starts_with_txn s) → IsTrue (starts_with_txn (set s i (option_map f (get_or s i d))))
full_set f [] i d h = h
full_set f (None ∷ s) i d h = absurd (false_is_false h)
full_set f (Some t ∷ s) zero d h = h
full_set f (Some t ∷ s) (suc i) d h = h

-- a slot whose transaction is changed
pub record IsChange (f : Txn → Txn) (b : ℕ) (s : List (Option Txn)) (i id : ℕ) (o new : Option Txn) : Type 0 where
  pub found : txn_at (running_of s) id ≡ o
  pub running : running_of (set s i new) ≡ change_txn (running_of s) id f
  pub numbers : AreNumbered b (set s i new)
  pub first : IsTrue (starts_with_txn (set s i new))

pub change_at : (f : Txn → Txn) → ((t : Txn) → (f t).id ≡ t.id) → (b : ℕ) (s : List (Option Txn)) (i id : ℕ) (o new : Option Txn)
    → AreNumbered b s → IsTrue (starts_with_txn s) → i < length s → id ≡ b + 1 + i → o ≡ get_or s i o → new ≡ option_map f o → IsChange f b s i id o new
change_at f same b s i id o new h full l e at is =
    let slot : new ≡ option_map f (get_or s i o) = is ∙ ap (option_map f) at in
    record {
      found = in_slot b s i id o h l e ∙ sym at;
      running = ap (λ x. running_of (set s i x)) slot ∙ changed f b s i id o h l e;
      numbers = subst (λ (x : Option Txn). AreNumbered b (set s i x)) (sym slot) (numbered_set b s i o _ h l (keeps_mapped f same (get_or s i o)));
      first = subst (λ (x : Option Txn). IsTrue (starts_with_txn (set s i x))) (sym slot) (full_set f s i o full);
    }
