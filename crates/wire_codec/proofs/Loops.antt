-- A loop that reads items: those so far, and those that are read of the bytes left, are all of them.
use Rattle.std.proofs.Common.{Option, ◌≡◌, ℕ, suc, List, [], ◌∷◌, ◌++◌, ◌≤◌, length, take, Result, Ok, Err, refl, sym, ap, ◌∙◌, append_assoc}
use Rattle.std.proofs.lemmas.List.{append-nil, take_all}
use Rattle.wire_messages.specs.declared.fault.FieldFault.{FieldFault}
use Rattle.wire_codec.specs.declared.reading.ReadFault.{ReadFault}
use Rattle.wire_codec.specs.declared.reading.ReadFault.TheVariants.{Field, NoMemory}
use Rattle.wire_messages.specs.Fields.{◌>>=◌, items_at}
use Rattle.wire_messages.specs.Versions.{record_at}
use Rattle.wire_codec.specs.Reading.{Fails}

-- what was read, behind what was read before
abbrev pub with_front : {A : Type 0} → List A → Result (List A × List ℕ) FieldFault → Result (List A × List ℕ) FieldFault
with_front front (Ok x) = Ok (front ++ x.0, x.1)
with_front front (Err f) = Err f

abbrev Item : Type 0 → Type 0 → Type 0
Item A C = C → ℕ → List ℕ → Result (A × List ℕ) FieldFault

regrouped : {A : Type 0} (front : List A) (x : A) (read : Result (List A × List ℕ) FieldFault)
    → with_front front (read >>= λ xs. Ok (x ∷ xs.0, xs.1)) ≡ with_front (front ++ x ∷ []) read
regrouped front x (Ok xs) = ap (λ ys. Ok (ys, xs.1)) (sym (append_assoc front (x ∷ []) xs.0))
regrouped front x (Err f) = refl

-- before the first item
pub items_start : {A C : Type 0} (item : Item A C) (add : C → A → C) (front : List A) (n m : ℕ) (c : C) (bytes : List ℕ)
    → front ≡ [] → n ≡ m → with_front front (items_at item add n c bytes) ≡ items_at item add m c bytes
items_start item add front n m c bytes none is =
    ap (λ f. with_front f (items_at item add n c bytes)) none ∙ nothing (items_at item add n c bytes) ∙ ap (λ k. items_at item add k c bytes) is
  where
    nothing : {A : Type 0} (r : Result (List A × List ℕ) FieldFault) → with_front [] r ≡ r
    nothing (Ok x) = refl
    nothing (Err f) = refl

-- an item was read
pub items_more : {A C : Type 0} (item : Item A C) (add : C → A → C) (front : List A) (x : A) (n k : ℕ) (c : C) (bytes after : List ℕ) (total : Result (List A × List ℕ) FieldFault)
    → n ≡ suc k → item c k bytes ≡ Ok (x, after) → with_front front (items_at item add n c bytes) ≡ total → with_front (front ++ x ∷ []) (items_at item add k (add c x) after) ≡ total
unfolding items_at
items_more item add front x n k c bytes after total is read so_far =
    sym (regrouped front x (items_at item add k (add c x) after))
    ∙ ap (λ r. with_front front (r >>= λ y. items_at item add k (add c y.0) y.1 >>= λ ys. Ok (y.0 ∷ ys.0, ys.1))) (sym read)
    ∙ ap (λ m. with_front front (items_at item add m c bytes)) (sym is)
    ∙ so_far

-- an item wasn't read
pub items_fail : {A C : Type 0} (item : Item A C) (add : C → A → C) (front : List A) (e : ReadFault) (n k : ℕ) (c : C) (bytes : List ℕ) (total : Result (List A × List ℕ) FieldFault)
    → n ≡ suc k → Fails e (item c k bytes) → with_front front (items_at item add n c bytes) ≡ total → Fails e total
unfolding items_at
items_fail item add front (Field f) n k c bytes total is failed so_far =
    sym so_far
    ∙ ap (λ m. with_front front (items_at item add m c bytes)) is
    ∙ ap (λ r. with_front front (r >>= λ y. items_at item add k (add c y.0) y.1 >>= λ ys. Ok (y.0 ∷ ys.0, ys.1))) failed
items_fail item add front NoMemory n k c bytes total is failed so_far = tt

-- all items were read
pub items_done : {A C : Type 0} (item : Item A C) (add : C → A → C) (front : List A) (n : ℕ) (c : C) (bytes : List ℕ) (total : Result (List A × List ℕ) FieldFault)
    → n ≡ 0 → with_front front (items_at item add n c bytes) ≡ total → total ≡ Ok (front, bytes)
unfolding items_at
items_done item add front n c bytes total is so_far =
    sym so_far
    ∙ ap (λ m. with_front front (items_at item add m c bytes)) is
    ∙ ap (λ xs. Ok (xs, bytes)) (append-nil front)

-- all places were filled
pub items_filled : {A C : Type 0} (item : Item A C) (add : C → A → C) (places : List A) (i n : ℕ) (c : C) (bytes : List ℕ) (total : Result (List A × List ℕ) FieldFault)
    → n ≡ 0 → length places ≤ i → with_front (take i places) (items_at item add n c bytes) ≡ total → total ≡ Ok (places, bytes)
items_filled item add places i n c bytes total is all so_far =
    items_done item add (take i places) n c bytes total is so_far ∙ ap (λ xs. Ok (xs, bytes)) (take_all i places all)

-- how many records follow makes no difference
pub record_any : (last : Option (List ℕ)) (after : ℕ) (bytes : List ℕ) → record_at last after bytes ≡ record_at last 0 bytes
unfolding record_at
record_any last after bytes = refl
