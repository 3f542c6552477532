-- How many digests of each partition there are, and the numbers that say so.
use Rattle.std.proofs.Common.{◌≡◌, ◌==◌, ◌≢◌, ℕ, suc, ◌+◌, ◌-◌, ◌<◌, ◌≤◌, Bool, true, false, cond, List, [], ◌∷◌, ◌++◌, Option, Some, None, length, map, take, get_or, count_by, refl, sym, ap, ◌∙◌, arith}
use Rattle.std.specs.Prelude.{slice_get, slice_index, slice_set}
use Rattle.std.proofs.lemmas.Bool.Decides.{nat_tests}
use Rattle.std.proofs.lemmas.Grind.{get_or-set_at}
use Rattle.std.proofs.lemmas.List.{get_or-map, get_or-set_other, length-map, take_more}
use Rattle.std.proofs.lemmas.List.Sums.{sum_by-append, sum_by-cons, sum_by-take-le}
use Rattle.std.proofs.lemmas.Option.{get_or_from_slice_get, none-some, slice_get-get_or, slice_get_within}
use Rattle.conflict_order.specs.declared.version.Version.{Version}
use Rattle.cluster_types.specs.Partitions.{partition_count, partition_of}
use Rattle.node_rules.specs.Copies.{is_of}

number_is : (a b : ℕ) → (a == b) ≡ true → a ≡ b
number_is a b e = grind (arith, nat_tests)

number_not : (a b : ℕ) → (a == b) ≡ false → b ≢ a
number_not a b e = grind (arith, nat_tests)

itself : (a : ℕ) → (a == a) ≡ true
itself a = grind (arith, nat_tests)

-- one more digest counts where it is the partition's
counted : (p i : ℕ) (ds : List (List ℕ)) (d : List ℕ) → i < length ds → get_or ds i [] ≡ d → count_by (is_of p) (take (i + 1) ds) ≡ count_by (is_of p) (take i ds) + cond (is_of p d) 1 0
counted p i ds d within at =
    let more : count_by (is_of p) (take (i + 1) ds) ≡ count_by (is_of p) (take i ds) + count_by (is_of p) (d ∷ []) =
    ap (count_by (is_of p)) (take_more ds i [] within ∙ ap (λ (e : List ℕ). take i ds ++ e ∷ []) at) ∙ sum_by-append (λ x. cond (is_of p x) 1 0) (take i ds) (d ∷ []) in
    let one : count_by (is_of p) (d ∷ []) ≡ cond (is_of p d) 1 0 + count_by (is_of p) [] = sum_by-cons (λ x. cond (is_of p x) 1 0) d [] in
    let none : count_by (is_of p) [] ≡ 0 = refl in
    omega (arith, more, one, none)

at_set : (now : List ℕ) (q p v : ℕ) → q < length now → slice_index (slice_set now q v) p ≡ cond (q == p) v (slice_index now p)
at_set now q p v within = go (q == p) refl
  where
    go : (b : Bool) → (q == p) ≡ b → slice_index (slice_set now q v) p ≡ cond (q == p) v (slice_index now p)
    go true is = get_or-set_at now q p v 0 (sym (number_is q p is)) within ∙ ap (λ b. cond b v (get_or now p 0)) (sym is)
    go false is = get_or-set_other now q p v 0 (number_not q p is) ∙ ap (λ b. cond b v (get_or now p 0)) (sym is)

in_range : (d : List ℕ) (now : List ℕ) → length now ≡ partition_count → partition_of d < length now
in_range d now size = omega (arith, size)

pub one_more : (base : ℕ → ℕ) (now next : List ℕ) (ds : List (List ℕ)) (i : ℕ) (d : List ℕ) → i < length ds → get_or ds i [] ≡ d → length now ≡ partition_count
    → next ≡ slice_set now (partition_of d) (slice_index now (partition_of d) + 1)
    → ((p : ℕ) → p < partition_count → slice_index now p ≡ base p + count_by (is_of p) (take i ds))
    → (p : ℕ) → p < partition_count → slice_index next p ≡ base p + count_by (is_of p) (take (i + 1) ds)
one_more base now next ds i d within at size is so p inside = go (is_of p d) refl
  where
    q : ℕ
    q = partition_of d

    there : slice_index next p ≡ cond (is_of p d) (slice_index now (partition_of d) + 1) (slice_index now p)
    there = ap (λ (ns : List ℕ). slice_index ns p) is ∙ at_set now (partition_of d) p (slice_index now (partition_of d) + 1) (in_range d now size)

    more : count_by (is_of p) (take (i + 1) ds) ≡ count_by (is_of p) (take i ds) + cond (is_of p d) 1 0
    more = counted p i ds d within at

    go : (b : Bool) → is_of p d ≡ b → slice_index next p ≡ base p + count_by (is_of p) (take (i + 1) ds)
    go true e =
        let here : slice_index next p ≡ slice_index now (partition_of d) + 1 = there ∙ ap (λ b. cond b (slice_index now (partition_of d) + 1) (slice_index now p)) e in
        let same : slice_index now (partition_of d) ≡ slice_index now p = ap (slice_index now) (number_is (partition_of d) p e) in
        let one : count_by (is_of p) (take (i + 1) ds) ≡ count_by (is_of p) (take i ds) + 1 = more ∙ ap (λ b. count_by (is_of p) (take i ds) + cond b 1 0) e in
        omega (arith, here, same, one, so p inside)
    go false e =
        let here : slice_index next p ≡ slice_index now p = there ∙ ap (λ b. cond b (slice_index now (partition_of d) + 1) (slice_index now p)) e in
        let none : count_by (is_of p) (take (i + 1) ds) ≡ count_by (is_of p) (take i ds) + 0 = more ∙ ap (λ b. count_by (is_of p) (take i ds) + cond b 1 0) e in
        omega (arith, here, none, so p inside)

pub one_less : (base : ℕ → ℕ) (now next : List ℕ) (ds : List (List ℕ)) (i : ℕ) (d : List ℕ) → i < length ds → get_or ds i [] ≡ d → length now ≡ partition_count
    → next ≡ slice_set now (partition_of d) (slice_index now (partition_of d) - 1) → 0 < slice_index now (partition_of d)
    → ((p : ℕ) → p < partition_count → slice_index now p + count_by (is_of p) (take i ds) ≡ base p)
    → (p : ℕ) → p < partition_count → slice_index next p + count_by (is_of p) (take (i + 1) ds) ≡ base p
one_less base now next ds i d within at size is some so p inside = go (is_of p d) refl
  where
    there : slice_index next p ≡ cond (is_of p d) (slice_index now (partition_of d) - 1) (slice_index now p)
    there = ap (λ (ns : List ℕ). slice_index ns p) is ∙ at_set now (partition_of d) p (slice_index now (partition_of d) - 1) (in_range d now size)

    more : count_by (is_of p) (take (i + 1) ds) ≡ count_by (is_of p) (take i ds) + cond (is_of p d) 1 0
    more = counted p i ds d within at

    go : (b : Bool) → is_of p d ≡ b → slice_index next p + count_by (is_of p) (take (i + 1) ds) ≡ base p
    go true e =
        let here : slice_index next p ≡ slice_index now (partition_of d) - 1 = there ∙ ap (λ b. cond b (slice_index now (partition_of d) - 1) (slice_index now p)) e in
        let same : slice_index now (partition_of d) ≡ slice_index now p = ap (slice_index now) (number_is (partition_of d) p e) in
        let one : count_by (is_of p) (take (i + 1) ds) ≡ count_by (is_of p) (take i ds) + 1 = more ∙ ap (λ b. count_by (is_of p) (take i ds) + cond b 1 0) e in
        omega (arith, here, same, one, some, so p inside)
    go false e =
        let here : slice_index next p ≡ slice_index now p = there ∙ ap (λ b. cond b (slice_index now (partition_of d) - 1) (slice_index now p)) e in
        let none : count_by (is_of p) (take (i + 1) ds) ≡ count_by (is_of p) (take i ds) + 0 = more ∙ ap (λ b. count_by (is_of p) (take i ds) + cond b 1 0) e in
        omega (arith, here, none, so p inside)

-- a digest that isn't taken away yet is counted
pub some_left : (base : ℕ → ℕ) (now : List ℕ) (ds : List (List ℕ)) (i : ℕ) (d : List ℕ) → i < length ds → get_or ds i [] ≡ d
    → ((p : ℕ) → p < partition_count → count_by (is_of p) ds ≤ base p)
    → ((p : ℕ) → p < partition_count → slice_index now p + count_by (is_of p) (take i ds) ≡ base p)
    → 0 < slice_index now (partition_of d)
some_left base now ds i d within at all so =
    let inside : partition_of d < partition_count = omega arith in
    let one : count_by (is_of (partition_of d)) (take (i + 1) ds) ≡ count_by (is_of (partition_of d)) (take i ds) + 1 =
    counted (partition_of d) i ds d within at ∙ ap (λ b. count_by (is_of (partition_of d)) (take i ds) + cond b 1 0) (itself (partition_of d)) in
    let le : count_by (is_of (partition_of d)) (take (i + 1) ds) ≤ count_by (is_of (partition_of d)) ds = sum_by-take-le (λ x. cond (is_of (partition_of d) x) 1 0) ds (i + 1) in
    omega (arith, one, le, all (partition_of d) inside, so (partition_of d) inside)

-- ---- the digest of a record

pub digest_within : (rs : List (List ℕ × Version)) (i : ℕ) (r : List ℕ × Version) → slice_get rs i ≡ Some r → i < length (map (λ (x : List ℕ × Version). x.0) rs)
digest_within rs i r read = omega (arith, slice_get_within rs i r read, length-map rs (λ (x : List ℕ × Version). x.0))

pub digest_at : (rs : List (List ℕ × Version)) (i : ℕ) (r : List ℕ × Version) → slice_get rs i ≡ Some r → get_or (map (λ (x : List ℕ × Version). x.0) rs) i [] ≡ r.0
digest_at rs i r read =
    get_or-map (λ (x : List ℕ × Version). x.0) rs i r [] (slice_get_within rs i r read) ∙ ap (λ (x : List ℕ × Version). x.0) (get_or_from_slice_get rs i r r read)

pub no_item : {X : Type 0} → (xs : List X) (i : ℕ) → i < length xs → slice_get xs i ≡ None → ⊥
no_item [] i within none = absurd (omega (arith, within))
no_item (x ∷ xs) i within none = none-some (get_or (x ∷ xs) i x) (sym none ∙ slice_get-get_or (x ∷ xs) i x within)
