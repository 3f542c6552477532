-- What the records of a batch make of a store, one by one and all together.
use Rattle.std.proofs.Common.{◌≡◌, ℕ, suc, ◌+◌, ◌<◌, Bool, true, false, cond, List, [], ◌∷◌, ◌++◌, take, drop, get_or, slice_get, length, filter, All, Some, None, Result, Ok, Err, OnOk, IsOk, refl, sym, ap, ◌∙◌, arith, if◌then◌else◌}
use Rattle.std.proofs.lemmas.List.{take_more, map-append}
use Rattle.std.proofs.lemmas.List.Elements.{filter_more}
use Rattle.std.proofs.lemmas.Option.{slice_get_within, get_or_from_slice_get, slice_get-get_or}
use Rattle.std.specs.declared.cmp.Ordering.{Ordering}
use Rattle.std.specs.declared.cmp.Ordering.TheVariants.{Less}
use Rattle.std.specs.Ordering.{nat_cmp, is_eq, eq_by_cmp, ordering_reverse}
use Rattle.std.specs.Cmp.Lexicographic.{slice_cmp}
use Rattle.std.specs.FinMap.{get, get-insert}
use Rattle.std.proofs.lemmas.Cmp.{nat_list_cmp_total}
use Rattle.conflict_order.specs.declared.policy.Policy.{Policy}
use Rattle.conflict_order.specs.Join.{kept}
use Rattle.conflict_order.specs.Order.{is_newer}
use Rattle.record_store.proofs.CopyLaws.{joined_kept}
use Rattle.node_rules.specs.Copies.{Content, joined}
use Rattle.node_rules.specs.Merging.{Record, is_newer_than_held, newer_records, joined_all}
use Rattle.node_rules.specs.Tables.{only_if}
use Rattle.immigrate.specs.Digests.{IsRising, record_digests}

abbrev digest_cmp : List ℕ → List ℕ → Ordering
digest_cmp = slice_cmp nat_cmp

apart : (d q : List ℕ) → digest_cmp d q ≡ Less → eq_by_cmp digest_cmp q d ≡ false
apart d q h = ap is_eq (nat_list_cmp_total.antisymm q d ∙ ap ordering_reverse h)

-- a record leaves what is held of the digests above its own
others_stay : (by : Policy) (c : Content) (r : Record) (b : Bool) (q : List ℕ) → digest_cmp r.0 q ≡ Less → get (if b then joined by c r.0 r.1 else c) q ≡ get c q
others_stay by c r true q above =
    get-insert nat_list_cmp_total c r.0 (kept by (get c r.0) r.1) q
    ∙ ap (λ b. cond b (Some (kept by (get c r.0) r.1)) (get c q)) (apart r.0 q above)
others_stay by c r false q above = refl

first_step : (by : Policy) (e : Content) (r : Record) (rs fs : List Record) → ((b : Bool) → newer_records by (if b then joined by e r.0 r.1 else e) rs ≡ fs) → (b : Bool) → only_if r b ++ newer_records by (if b then joined by e r.0 r.1 else e) rs ≡ cond b (r ∷ fs) fs
first_step by e r rs fs rest true = ap (λ xs. r ∷ xs) (rest true)
first_step by e r rs fs rest false = rest false

-- a store that holds the same of the batch's digests takes the same records
filtered : (by : Policy) (c e : Content) (rs : List Record) → IsRising rs → All (λ r. get e r.0 ≡ get c r.0) rs → newer_records by e rs ≡ filter (is_newer_than_held by c) rs
filtered by c e [] rising same = refl
filtered by c e (r ∷ rs) rising same =
    let fs = filter (is_newer_than_held by c) rs in
    let rest : (b : Bool) → newer_records by (if b then joined by e r.0 r.1 else e) rs ≡ fs
    = λ b. filtered by c (if b then joined by e r.0 r.1 else e) rs (λ i j d lower within. rising (suc i) (suc j) d (omega (arith, lower)) (omega (arith, within)))
    (λ k d within. others_stay by e r b _ (rising 0 (suc k) d (omega arith) (omega (arith, within))) ∙ same (suc k) d (omega (arith, within))) in
    first_step by e r rs fs rest (is_newer_than_held by e r)
    ∙ ap (λ o. cond (is_newer by r.1 o) (r ∷ fs) fs) (same 0 r (omega arith))

-- since the digests rise, no record of a batch meets another one
pub newer_is_filter : (by : Policy) (c : Content) (rs : List Record) → IsRising rs → newer_records by c rs ≡ filter (is_newer_than_held by c) rs
newer_is_filter by c rs rising = filtered by c c rs rising (λ k d within. refl)

joined_step : (by : Policy) (c : Content) (r : Record) (rs : List Record) → ((m : Content) → joined_all by m (newer_records by m rs) ≡ joined_all by m rs)
    → (b : Bool) → is_newer_than_held by c r ≡ b → joined_all by c (only_if r b ++ newer_records by (if b then joined by c r.0 r.1 else c) rs) ≡ joined_all by (joined by c r.0 r.1) rs
joined_step by c r rs rest true is = rest (joined by c r.0 r.1)
joined_step by c r rs rest false is = rest c ∙ ap (λ m. joined_all by m rs) (joined_kept by c r.0 r.1 is)

-- those that are newer make of a store what the whole batch does
pub newer_make_the_same : (by : Policy) (rs : List Record) (c : Content) → joined_all by c (newer_records by c rs) ≡ joined_all by c rs
newer_make_the_same by [] c = refl
newer_make_the_same by (r ∷ rs) c = joined_step by c r rs (newer_make_the_same by rs) (is_newer_than_held by c r) refl

outside : (rs : List Record) (i : ℕ) → slice_get rs i ≡ None → i < length rs → ⊥
outside [] i none within = omega arith
outside (r ∷ rs) i none within = absurd_some (sym (slice_get-get_or (r ∷ rs) i r within) ∙ none)
  where
    absurd_some : Some (get_or (r ∷ rs) i r) ≡ None → ⊥
    absurd_some e = cc

-- every place within has a record
pub within_is_some : (rs : List Record) (i : ℕ) → None ≡ slice_get rs i → i < length rs → ⊥
within_is_some rs i none within = outside rs i (sym none) within

-- one more digest
pub digest_more : (rs : List Record) (i : ℕ) (r : Record) → Some r ≡ slice_get rs i → record_digests (take i rs) ++ r.0 ∷ [] ≡ record_digests (take (i + 1) rs)
digest_more rs i r at =
    let within = slice_get_within rs i r (sym at) in
    let here = get_or_from_slice_get rs i r r (sym at) in
    sym (ap record_digests (take_more rs i r within ∙ ap (λ x. take i rs ++ x ∷ []) here) ∙ map-append (λ (x : Record). x.0) (take i rs) (r ∷ []))

-- one more record, where it passes
pub passing_more : (p : Record → Bool) (rs : List Record) (i : ℕ) (r : Record) → Some r ≡ slice_get rs i → filter p (take i rs) ++ cond (p r) (r ∷ []) [] ≡ filter p (take (i + 1) rs)
passing_more p rs i r at =
    let within = slice_get_within rs i r (sym at) in
    let here = get_or_from_slice_get rs i r r (sym at) in
    sym (filter_more p rs i r within ∙ ap (λ x. filter p (take i rs) ++ cond (p x) (x ∷ []) []) here)

-- the first record and those after it
pub first_taken : (rs ns : List Record) (r : Record) → Some r ≡ slice_get rs 0 → ns ≡ drop 1 rs → rs ≡ r ∷ ns
first_taken [] ns r at rest = cc
first_taken (x ∷ rs) ns r at rest = cc

-- what holds of a success holds where there is one
pub on_ok : {T E : Type 0} (r : Result T E) (P : Type 0) → OnOk r P → IsOk r → P
on_ok (Ok x) P h ok = h
on_ok (Err e) P h ok = cc ok
