-- What is kept of transactions in slots, by their numbers.
use Rattle.std.proofs.Common.{◌≡◌, ◌==◌, ◌<◌, ◌≤◌, ◌+◌, ◌-◌, ℕ, zero, suc, true, false, List, [], ◌∷◌, ◌++◌, length, get_or, set, Option, Some, None, refl, sym, ap, ◌∙◌, ◌⊎◌, inl, inr, arith}
use Rattle.std.specs.Option.{option_map}
use Rattle.partition_lists.proofs.InOrderLaws.{equal, unequal}
use Rattle.node_rules.specs.Tables.{Table}
use Rattle.node_view.specs.declared.notes.TxnNote.{TxnNote}
use Rattle.node_view.specs.Transactions.{note_of, notes_after, with_note, without_note}

-- the number is none of so many after one
abbrev pub IsNone : ℕ → ℕ → ℕ → Type 0
IsNone b n t = (t ≤ b) ⊎ (b + n < t)

next_none : (b n t : ℕ) → IsNone b (suc n) t → IsNone (b + 1) n t
next_none b n t (inl h) = inl (omega arith)
next_none b n t (inr h) = inr (omega arith)

first_other : (b n t : ℕ) → IsNone b (suc n) t → b + 1 ≡ t → ⊥
first_other b n t (inl h) e = omega arith
first_other b n t (inr h) e = omega arith

-- a number that isn't among the last so many of those that were opened
pub none_of_last : (opened n m k t : ℕ) → n ≡ m → m ≡ k → m ≤ opened → (t ≤ opened - n) ⊎ (opened < t) → IsNone (opened - m) k t
none_of_last opened n m k t e f l (inl h) = inl (omega arith)
none_of_last opened n m k t e f l (inr h) = inr (omega arith)

-- a number that no slot has
pub none_kept : (b : ℕ) (s : List (Option TxnNote)) (t : ℕ) → IsNone b (length s) t → note_of (notes_after b s) t ≡ None
none_kept b [] t h = refl
none_kept b (None ∷ s) t h = none_kept (b + 1) s t (next_none b (length s) t h)
none_kept b (Some n ∷ s) t h =
    let r : note_of (notes_after (b + 1) s) t ≡ None = none_kept (b + 1) s t (next_none b (length s) t h) in
    let e : (b + 1 == t) ≡ false = unequal (b + 1) t (first_other b (length s) t h) in
    rw e r

pub none_closed : (b : ℕ) (s : List (Option TxnNote)) (t : ℕ) → IsNone b (length s) t → without_note (notes_after b s) t ≡ notes_after b s
none_closed b [] t h = refl
none_closed b (None ∷ s) t h = none_closed (b + 1) s t (next_none b (length s) t h)
none_closed b (Some n ∷ s) t h =
    let r : without_note (notes_after (b + 1) s) t ≡ notes_after (b + 1) s = none_closed (b + 1) s t (next_none b (length s) t h) in
    let e : (b + 1 == t) ≡ false = unequal (b + 1) t (first_other b (length s) t h) in
    rw e (ap (λ (ns : Table TxnNote). (b + 1, n) ∷ ns) r)

pub none_changed : (f : TxnNote → TxnNote) (b : ℕ) (s : List (Option TxnNote)) (t : ℕ) → IsNone b (length s) t → with_note (notes_after b s) t f ≡ notes_after b s
none_changed f b [] t h = refl
none_changed f b (None ∷ s) t h = none_changed f (b + 1) s t (next_none b (length s) t h)
none_changed f b (Some n ∷ s) t h =
    let r : with_note (notes_after (b + 1) s) t f ≡ notes_after (b + 1) s = none_changed f (b + 1) s t (next_none b (length s) t h) in
    let e : (b + 1 == t) ≡ false = unequal (b + 1) t (first_other b (length s) t h) in
    rw e (ap (λ (ns : Table TxnNote). (b + 1, n) ∷ ns) r)

-- the note in the slot of a number
pub slot_kept : (b : ℕ) (s : List (Option TxnNote)) (i t : ℕ) (d : Option TxnNote) → i < length s → t ≡ b + 1 + i → note_of (notes_after b s) t ≡ get_or s i d
slot_kept b [] i t d l e = absurd (omega arith)
slot_kept b (None ∷ s) zero t d l e = none_kept (b + 1) s t (inl (omega arith))
slot_kept b (Some n ∷ s) zero t d l e =
    let same : (b + 1 == t) ≡ true = equal (b + 1) t (omega arith) in
    rw same refl
slot_kept b (None ∷ s) (suc i) t d l e = slot_kept (b + 1) s i t d (omega arith) (omega arith)
slot_kept b (Some n ∷ s) (suc i) t d l e =
    let r : note_of (notes_after (b + 1) s) t ≡ get_or s i d = slot_kept (b + 1) s i t d (omega arith) (omega arith) in
    let other : (b + 1 == t) ≡ false = unequal (b + 1) t (omega arith) in
    rw other r

-- a slot that is emptied
pub slot_closed : (b : ℕ) (s : List (Option TxnNote)) (i t : ℕ) → i < length s → t ≡ b + 1 + i → notes_after b (set s i None) ≡ without_note (notes_after b s) t
slot_closed b [] i t l e = absurd (omega arith)
slot_closed b (None ∷ s) zero t l e = sym (none_closed (b + 1) s t (inl (omega arith)))
slot_closed b (Some n ∷ s) zero t l e =
    let same : (b + 1 == t) ≡ true = equal (b + 1) t (omega arith) in
    rw same (sym (none_closed (b + 1) s t (inl (omega arith))))
slot_closed b (None ∷ s) (suc i) t l e = slot_closed (b + 1) s i t (omega arith) (omega arith)
slot_closed b (Some n ∷ s) (suc i) t l e =
    let r : notes_after (b + 1) (set s i None) ≡ without_note (notes_after (b + 1) s) t = slot_closed (b + 1) s i t (omega arith) (omega arith) in
    let other : (b + 1 == t) ≡ false = unequal (b + 1) t (omega arith) in
    rw other (ap (λ (ns : Table TxnNote). (b + 1, n) ∷ ns) r)

-- a slot whose note is changed
pub slot_changed : (f : TxnNote → TxnNote) (b : ℕ) (s : List (Option TxnNote)) (i t : ℕ) (o new : Option TxnNote) → i < length s → t ≡ b + 1 + i
    → o ≡ get_or s i o → new ≡ option_map f o → notes_after b (set s i new) ≡ with_note (notes_after b s) t f
slot_changed f b s i t o new l e at is =
    ap (λ (x : Option TxnNote). notes_after b (set s i x)) (is ∙ ap (option_map f) at) ∙ changed b s i t o l e
  where
    changed : (b : ℕ) (s : List (Option TxnNote)) (i t : ℕ) (d : Option TxnNote) → i < length s → t ≡ b + 1 + i → notes_after b (set s i (option_map f (get_or s i d))) ≡ with_note (notes_after b s) t f
    changed b [] i t d l e = absurd (omega arith)
    changed b (None ∷ s) zero t d l e = sym (none_changed f (b + 1) s t (inl (omega arith)))
    changed b (Some n ∷ s) zero t d l e =
        let same : (b + 1 == t) ≡ true = equal (b + 1) t (omega arith) in
        rw same (ap (λ (ns : Table TxnNote). (b + 1, f n) ∷ ns) (sym (none_changed f (b + 1) s t (inl (omega arith)))))
    changed b (None ∷ s) (suc i) t d l e = changed (b + 1) s i t d (omega arith) (omega arith)
    changed b (Some n ∷ s) (suc i) t d l e =
        let r = changed (b + 1) s i t d (omega arith) (omega arith) in
        let other : (b + 1 == t) ≡ false = unequal (b + 1) t (omega arith) in
        rw other (ap (λ (ns : Table TxnNote). (b + 1, n) ∷ ns) r)

-- a slot more
pub slot_added : (b : ℕ) (s : List (Option TxnNote)) (n : TxnNote) (t : ℕ) → t ≡ b + length s + 1 → notes_after b (s ++ Some n ∷ []) ≡ notes_after b s ++ (t, n) ∷ []
slot_added b [] n t e = ap (λ (k : ℕ). (k, n) ∷ []) (omega arith)
slot_added b (None ∷ s) n t e = slot_added (b + 1) s n t (omega arith)
slot_added b (Some m ∷ s) n t e = ap (λ (ns : Table TxnNote). (b + 1, m) ∷ ns) (slot_added (b + 1) s n t (omega arith))

-- the same of a transaction that opens, whose slot stands after all others
pub slot_pushed : (opened n m : ℕ) (s u : List (Option TxnNote)) (note : TxnNote) → m ≡ n + 1 → n ≡ length s → n ≤ opened → u ≡ s ++ Some note ∷ []
    → notes_after (opened + 1 - m) u ≡ notes_after (opened - n) s ++ (opened + 1, note) ∷ []
slot_pushed opened n m s u note e f l is =
    let before : opened + 1 - m ≡ opened - n = omega arith in
    rw (before, is) (slot_added (opened - n) s note (opened + 1) (omega arith))
