-- Lists in rising order.
use Rattle.std.proofs.Common.{◌≡◌, ◌≢◌, ◌==◌, ◌⊎◌, ◌||◌, ℕ, ◌+◌, ◌<◌, ◌≤◌, Bool, true, false, cond, List, [], ◌∷◌, length, map, filter, get_or, count_by, zero, suc, inl, inr, refl, sym, ap, subst, ◌∙◌, arith, zero-add, IsPermutation, IsSortedBy}
use Rattle.std.specs.List.{list_any}
use Rattle.std.proofs.lemmas.Bool.Decides.{eqb_tells}
use Rattle.std.proofs.lemmas.List.Sorted.{IsPermutation-refl, IsPermutation-sym, IsPermutation-cons, IsPermutation-middle, IsPermutation-trans, sum_by-IsPermutation, Contains-permutation}
use Rattle.std.proofs.lemmas.List.Sorted.{sorted_far}
use Rattle.std.proofs.lemmas.List.Sums.{sum_by-cons}
use Rattle.std.proofs.lemmas.List.Kept.{AllPairs-cons}
use Rattle.std.specs.Cmp.{IsStrictWeakOrder}
use Rattle.cluster_types.specs.Distinct.{AreDistinct}
use Rattle.cluster_types.proofs.DistinctLaws.{none_distinct}
use Rattle.partition_lists.specs.Lists.{put_in_order, in_order}

-- the test is a strict order in which two items of which neither is below the other are the same
pub record IsStrictOrder {K : Type 0} (is_below : K → K → Bool) : Type 0 where
  pub transitive : (a b c : K) → is_below a b ≡ true → is_below b c ≡ true → is_below a c ≡ true
  pub irreflexive : (a : K) → is_below a a ≡ false
  pub connected : (a b : K) → is_below a b ≡ false → is_below b a ≡ false → a ≡ b

abbrev pub Each : {K : Type 0} → (K → Type 0) → List K → Type 0
Each P [] = Unit {0}
Each P (x ∷ xs) = P x × Each P xs

-- an item of the list
abbrev pub Has : {K : Type 0} → List K → K → Type 0
Has [] z = ⊥
Has (x ∷ xs) z = (x ≡ z) ⊎ Has xs z

-- each item is below those after it
abbrev pub Rises : {K : Type 0} → (K → K → Bool) → List K → Type 0
Rises is_below [] = Unit {0}
Rises is_below (x ∷ xs) = Each (λ y. is_below x y ≡ true) xs × Rises is_below xs

-- no number is that of two items
abbrev pub DifferBy : {K : Type 0} → (K → ℕ) → List K → Type 0
DifferBy key [] = Unit {0}
DifferBy key (x ∷ xs) = Each (λ y. key y ≢ key x) xs × DifferBy key xs

pub truth_of : (b : Bool) → (b ≡ true) ⊎ (b ≡ false)
truth_of true = inl refl
truth_of false = inr refl

pub each_has : {K : Type 0} (P : K → Type 0) (xs : List K) (z : K) → Each P xs → Has xs z → P z
each_has P [] z h found = absurd found
each_has P (x ∷ xs) z h found = elim found [
  | inl here ↦ subst P here h.0
  | inr later ↦ each_has P xs z h.1 later
]

pub each_from : {K : Type 0} (P : K → Type 0) (xs : List K) → ((z : K) → Has xs z → P z) → Each P xs
each_from P [] h = tt
each_from P (x ∷ xs) h = (h x (inl refl), each_from P xs (λ z found. h z (inr found)))

pub has_map : {K L : Type 0} (f : K → L) (xs : List K) (z : K) → Has xs z → Has (map f xs) (f z)
has_map f [] z found = absurd found
has_map f (x ∷ xs) z found = elim found [
  | inl here ↦ inl (ap f here)
  | inr later ↦ inr (has_map f xs z later)
]

pub map_has : {K L : Type 0} (f : K → L) (xs : List K) (z : L) → Has (map f xs) z → (x : K) × Has xs x × (f x ≡ z)
map_has f [] z found = absurd found
map_has f (x ∷ xs) z found = elim found [
  | inl here ↦ (x, inl refl, here)
  | inr later ↦ let rest = map_has f xs z later in (rest.0, inr rest.1, rest.2)
]

-- an item that passes a test
pub any_has : {K : Type 0} (test : K → Bool) (xs : List K) → list_any test xs ≡ true → (x : K) × Has xs x × (test x ≡ true)
any_has test [] h = absurd (clash h)
  where
    clash : false ≡ true → ⊥
    clash wrong = cc
any_has {K} test (x ∷ xs) h = elim (truth_of (test x)) [
  | inl passes ↦ (x, inl refl, passes)
  | inr fails ↦ (let rest = any_has test xs (sym (ap (λ b. b || list_any test xs) fails) ∙ h) in (rest.0, inr rest.1, rest.2))
]

pub has_any : {K : Type 0} (test : K → Bool) (xs : List K) (x : K) → Has xs x → test x ≡ true → list_any test xs ≡ true
has_any test [] x found h = absurd found
has_any {K} test (y ∷ xs) x found h = elim found [
  | inl here ↦ ap (λ b. b || list_any test xs) (subst (λ z. test z ≡ true) (sym here) h)
  | inr later ↦ either (test y) (has_any test xs x later h)
]
  where
    either : (b : Bool) → list_any test xs ≡ true → (b || list_any test xs) ≡ true
    either true k = refl
    either false k = k

put_cases : {K : Type 0} (is_below : K → K → Bool) (x y : K) (ys : List K) (P : List K → Type 0) → (is_below y x ≡ true → P (y ∷ put_in_order is_below x ys)) → (is_below y x ≡ false → P (x ∷ y ∷ ys)) → P (put_in_order is_below x (y ∷ ys))
put_cases is_below x y ys P after before = go (is_below y x) refl
  where
    go : (b : Bool) → is_below y x ≡ b → P (cond b (y ∷ put_in_order is_below x ys) (x ∷ y ∷ ys))
    go true h = after h
    go false h = before h

each_put : {K : Type 0} (is_below : K → K → Bool) (P : K → Type 0) (x : K) (ys : List K) → P x → Each P ys → Each P (put_in_order is_below x ys)
each_put is_below P x [] here rest = (here, tt)
each_put is_below P x (y ∷ ys) here rest = put_cases is_below x y ys (Each P) (λ h. (rest.0, each_put is_below P x ys here rest.1)) (λ h. (here, rest))

permutation_put : {K : Type 0} (is_below : K → K → Bool) (x : K) (ys : List K) → IsPermutation (x ∷ ys) (put_in_order is_below x ys)
permutation_put is_below x [] = IsPermutation-refl (x ∷ [])
permutation_put is_below x (y ∷ ys) =
    put_cases is_below x y ys (IsPermutation (x ∷ y ∷ ys))
    (λ h. IsPermutation-trans _ _ _ (IsPermutation-sym _ _ (IsPermutation-middle (y ∷ []) x ys)) (IsPermutation-cons y _ _ (permutation_put is_below x ys)))
    (λ h. IsPermutation-refl _)

pub permutation_in_order : {K : Type 0} (is_below : K → K → Bool) (xs : List K) → IsPermutation xs (in_order is_below xs)
permutation_in_order is_below [] = IsPermutation-refl []
permutation_in_order is_below (x ∷ xs) =
    IsPermutation-trans _ _ _ (IsPermutation-cons x _ _ (permutation_in_order is_below xs)) (permutation_put is_below x (in_order is_below xs))

pub each_in_order : {K : Type 0} (is_below : K → K → Bool) (P : K → Type 0) (xs : List K) → Each P xs → Each P (in_order is_below xs)
each_in_order is_below P [] h = tt
each_in_order is_below P (x ∷ xs) h = each_put is_below P x (in_order is_below xs) h.0 (each_in_order is_below P xs h.1)

differ_put : {K : Type 0} (is_below : K → K → Bool) (key : K → ℕ) (x : K) (ys : List K) → Each (λ y. key y ≢ key x) ys → DifferBy key ys → DifferBy key (put_in_order is_below x ys)
differ_put is_below key x [] new h = (tt, tt)
differ_put is_below key x (y ∷ ys) new h =
    put_cases is_below x y ys (DifferBy key)
    (λ after. (each_put is_below (λ z. key z ≢ key y) x ys (λ same. new.0 (sym same)) h.0, differ_put is_below key x ys new.1 h.1))
    (λ before. (new, h))

pub differ_in_order : {K : Type 0} (is_below : K → K → Bool) (key : K → ℕ) (xs : List K) → DifferBy key xs → DifferBy key (in_order is_below xs)
differ_in_order is_below key [] h = tt
differ_in_order is_below key (x ∷ xs) h =
    differ_put is_below key x (in_order is_below xs) (each_in_order is_below (λ y. key y ≢ key x) xs h.0) (differ_in_order is_below key xs h.1)

-- what is below an item is below all that the item is below
each_above : {K : Type 0} {is_below : K → K → Bool} → IsStrictOrder is_below → (x y : K) (ys : List K) → is_below x y ≡ true → Each (λ z. is_below y z ≡ true) ys → Each (λ z. is_below x z ≡ true) ys
each_above o x y [] h rest = tt
each_above o x y (z ∷ ys) h rest = (o.transitive x y z h rest.0, each_above o x y ys h rest.1)

-- of two different items, one is below the other
other_way : {K : Type 0} {is_below : K → K → Bool} → IsStrictOrder is_below → (x y : K) → x ≢ y → is_below y x ≡ false → is_below x y ≡ true
other_way {K} {is_below} o x y differ h = elim (truth_of (is_below x y)) [
  | inl above ↦ above
  | inr not_above ↦ absurd (differ (o.connected x y not_above h))
]

rises_put : {K : Type 0} {is_below : K → K → Bool} → IsStrictOrder is_below → (key : K → ℕ) (x : K) (ys : List K) → Each (λ y. key y ≢ key x) ys → Rises is_below ys → Rises is_below (put_in_order is_below x ys)
rises_put o key x [] new h = (tt, tt)
rises_put {K} {is_below} o key x (y ∷ ys) new h =
    put_cases is_below x y ys (Rises is_below)
    (λ after. (each_put is_below (λ z. is_below y z ≡ true) x ys after h.0, rises_put o key x ys new.1 h.1))
    (λ before.
    let above = other_way o x y (λ same. new.0 (sym (ap key same))) before in ((above, each_above o x y ys above h.0), h))

pub rises_in_order : {K : Type 0} {is_below : K → K → Bool} → IsStrictOrder is_below → (key : K → ℕ) (xs : List K) → DifferBy key xs → Rises is_below (in_order is_below xs)
rises_in_order o key [] h = tt
rises_in_order {K} {is_below} o key (x ∷ xs) h =
    rises_put o key x (in_order is_below xs) (each_in_order is_below (λ y. key y ≢ key x) xs h.0) (rises_in_order o key xs h.1)

-- nothing is below itself, at one remove either
not_both : {K : Type 0} {is_below : K → K → Bool} → IsStrictOrder is_below → (x y : K) → is_below x y ≡ true → is_below y x ≡ true → ⊥
not_both o x y p q = let around = o.transitive x y x p q in let never = o.irreflexive x in let wrong : true ≡ false = sym around ∙ never in cc

tail_items : {K : Type 0} {is_below : K → K → Bool} → IsStrictOrder is_below → (x : K) (xs ys : List K) → Each (λ w. is_below x w ≡ true) xs → ((z : K) → Has (x ∷ xs) z → Has (x ∷ ys) z) → (z : K) → Has xs z → Has ys z
tail_items {K} {is_below} o x xs ys above there z found = elim (there z (inr found)) [
  | inl here ↦ absurd (not_itself (subst (λ w. is_below x w ≡ true) (sym here) (each_has (λ w. is_below x w ≡ true) xs z above found)))
  | inr later ↦ later
]
  where
    not_itself : is_below x x ≡ true → ⊥
    not_itself h = let never = o.irreflexive x in cc

same_first : {K : Type 0} {is_below : K → K → Bool} → IsStrictOrder is_below → (x y : K) (xs ys : List K) → Each (λ w. is_below x w ≡ true) xs → Each (λ w. is_below y w ≡ true) ys → Has (y ∷ ys) x → Has (x ∷ xs) y → x ≡ y
same_first {K} {is_below} o x y xs ys p q there back = elim there [
  | inl here ↦ sym here
  | inr later ↦ elim back [
    | inl here ↦ here
    | inr also_later ↦ absurd (not_both o x y (each_has (λ w. is_below x w ≡ true) xs y p also_later) (each_has (λ w. is_below y w ≡ true) ys x q later))
  ]
]

-- a rising list is known by its items
pub same_rising : {K : Type 0} {is_below : K → K → Bool} → IsStrictOrder is_below → (xs ys : List K) → Rises is_below xs → Rises is_below ys → ((z : K) → Has xs z → Has ys z) → ((z : K) → Has ys z → Has xs z) → xs ≡ ys
same_rising o [] [] p q there back = refl
same_rising o [] (y ∷ ys) p q there back = absurd (back y (inl refl))
same_rising o (x ∷ xs) [] p q there back = absurd (there x (inl refl))
same_rising {K} {is_below} o (x ∷ xs) (y ∷ ys) p q there back =
    let same : x ≡ y = same_first o x y xs ys p.0 q.0 (there x (inl refl)) (back y (inl refl)) in
    let tails : xs ≡ ys =
    same_rising o xs ys p.1 q.1
    (tail_items o x xs ys p.0 (λ z found. subst (λ w. Has (w ∷ ys) z) (sym same) (there z found)))
    (tail_items o x ys xs (subst (λ v. Each (λ w. is_below v w ≡ true) ys) (sym same) q.0) (λ z found. back z (subst (λ w. Has (w ∷ ys) z) same found))) in
    λ i. same i ∷ tails i

-- what the index tells of an item
pub has_at : {K : Type 0} (xs : List K) (k : ℕ) (d : K) → k < length xs → Has xs (get_or xs k d)
has_at [] k d h = absurd (omega arith)
has_at (x ∷ xs) zero d h = inl refl
has_at (x ∷ xs) (suc k) d h = inr (has_at xs k d (omega (arith, h)))

pub index_of : {K : Type 0} (xs : List K) (z : K) → Has xs z → (k : ℕ) × (k < length xs) × ((d : K) → get_or xs k d ≡ z)
index_of [] z found = absurd found
index_of (x ∷ xs) z found = elim found [
  | inl here ↦ (zero, omega arith, λ d. here)
  | inr later ↦ let rest = index_of xs z later in (suc rest.0, omega (arith, rest.1), rest.2)
]

pub has_permuted : {K : Type 0} (xs ys : List K) (z : K) → IsPermutation xs ys → Has xs z → Has ys z
has_permuted xs ys z moved found =
    let at = index_of xs z found in
    let there = Contains-permutation xs ys z moved (at.0, at.1, at.2 z) in
    subst (Has ys) there.2 (has_at ys there.0 z there.1)

pub in_order_has : {K : Type 0} (is_below : K → K → Bool) (xs : List K) (z : K) → Has (in_order is_below xs) z → Has xs z
in_order_has is_below xs z = has_permuted (in_order is_below xs) xs z (IsPermutation-sym _ _ (permutation_in_order is_below xs))

pub has_in_order : {K : Type 0} (is_below : K → K → Bool) (xs : List K) (z : K) → Has xs z → Has (in_order is_below xs) z
has_in_order is_below xs z = has_permuted xs (in_order is_below xs) z (permutation_in_order is_below xs)

-- an item that the test passes is counted
pub counts_one : {K : Type 0} (p : K → Bool) (x : K) (xs : List K) → p x ≡ true → count_by p (x ∷ xs) ≡ 1 + count_by p xs
counts_one p x xs h = sum_by-cons (λ z. cond (p z) 1 0) x xs ∙ ap (λ b. cond b 1 0 + count_by p xs) h

pub counts_none : {K : Type 0} (p : K → Bool) (x : K) (xs : List K) → p x ≡ false → count_by p (x ∷ xs) ≡ count_by p xs
counts_none p x xs h = sum_by-cons (λ z. cond (p z) 1 0) x xs ∙ ap (λ b. cond b 1 0 + count_by p xs) h ∙ zero-add (count_by p xs)

none_counted : {K : Type 0} (p : K → Bool) (xs : List K) → count_by p xs ≡ 0 → Each (λ z. p z ≡ false) xs
none_counted p [] h = tt
none_counted {K} p (x ∷ xs) h = elim (truth_of (p x)) [
  | inl passes ↦ (let some : 1 + count_by p xs ≡ 0 = sym (counts_one p x xs passes) ∙ h in absurd (omega (arith, some)))
  | inr fails ↦ (fails, none_counted p xs (sym (counts_none p x xs fails) ∙ h))
]

count_none : {K : Type 0} (p : K → Bool) (xs : List K) → Each (λ z. p z ≡ false) xs → count_by p xs ≡ 0
count_none p [] h = refl
count_none p (x ∷ xs) h = counts_none p x xs h.0 ∙ count_none p xs h.1

pub unequal : (a b : ℕ) → a ≢ b → (a == b) ≡ false
unequal a b differ = elim (eqb_tells a b) [
  | inl same ↦ absurd (differ same.1)
  | inr other ↦ other.0
]

pub from_equal : (a b : ℕ) → (a == b) ≡ true → a ≡ b
from_equal a b h = elim (eqb_tells a b) [
  | inl same ↦ same.1
  | inr other ↦ (let fails = other.0 in cc)
]

pub equal : (a b : ℕ) → a ≡ b → (a == b) ≡ true
equal a b same = elim (eqb_tells a b) [
  | inl tested ↦ tested.0
  | inr other ↦ absurd (other.1 same)
]

differ_from_test : {K : Type 0} (key : K → ℕ) (n : ℕ) (xs : List K) → Each (λ z. (key z == n) ≡ false) xs → Each (λ z. key z ≢ n) xs
differ_from_test key n [] h = tt
differ_from_test key n (x ∷ xs) h = (λ same. let tested = equal (key x) n same in let fails = h.0 in cc, differ_from_test key n xs h.1)

test_from_differ : {K : Type 0} (key : K → ℕ) (n : ℕ) (xs : List K) → Each (λ z. key z ≢ n) xs → Each (λ z. (key z == n) ≡ false) xs
test_from_differ key n [] h = tt
test_from_differ key n (x ∷ xs) h = (unequal (key x) n h.0, test_from_differ key n xs h.1)

-- where no number is that of two items, each number is counted at most once
counted_once : {K : Type 0} (key : K → ℕ) (n : ℕ) (xs : List K) → DifferBy key xs → count_by (λ z. key z == n) xs ≤ 1
counted_once key n [] h = omega arith
counted_once {K} key n (x ∷ xs) h = elim (eqb_tells (key x) n) [
  | inl same ↦
      let others : count_by (λ z. key z == n) xs ≡ 0 = count_none (λ z. key z == n) xs (test_from_differ key n xs (subst (λ k. Each (λ z. key z ≢ k) xs) same.1 h.0)) in
      omega (arith, counts_one (λ z. key z == n) x xs same.0, others)
  | inr other ↦ omega (arith, counts_none (λ z. key z == n) x xs other.0, counted_once key n xs h.1)
]

differ_from_counts : {K : Type 0} (key : K → ℕ) (xs : List K) → ((n : ℕ) → count_by (λ z. key z == n) xs ≤ 1) → DifferBy key xs
differ_from_counts key [] h = tt
differ_from_counts {K} key (x ∷ xs) h = (
  (let none : count_by (λ z. key z == key x) xs ≡ 0 = omega (arith, h (key x), counts_one (λ z. key z == key x) x xs (equal (key x) (key x) refl)) in
      differ_from_test key (key x) xs (none_counted (λ z. key z == key x) xs none)),
  differ_from_counts key xs (λ n. fewer n (h n)),
)
  where
    fewer : (n : ℕ) → count_by (λ z. key z == n) (x ∷ xs) ≤ 1 → count_by (λ z. key z == n) xs ≤ 1
    fewer n bound = elim (truth_of (key x == n)) [
      | inl passes ↦ omega (arith, bound, counts_one (λ z. key z == n) x xs passes)
      | inr fails ↦ omega (arith, bound, counts_none (λ z. key z == n) x xs fails)
    ]

pub differ_permuted : {K : Type 0} (key : K → ℕ) (xs ys : List K) → IsPermutation xs ys → DifferBy key xs → DifferBy key ys
differ_permuted key xs ys moved h =
    differ_from_counts key ys (λ n. subst (λ c. c ≤ 1) (sym (sum_by-IsPermutation (λ z. cond (key z == n) 1 0) xs ys moved)) (counted_once key n xs h))

-- distinct numbers, by recursion and by index
pub differ_distinct : {K : Type 0} (key : K → ℕ) (xs : List K) → DifferBy key xs → AreDistinct (map key xs)
differ_distinct key [] h = none_distinct
differ_distinct {K} key (x ∷ xs) h = record {
  differ = AllPairs-cons (λ a b. a ≢ b) (key x) (map key xs) (λ k d within. new k d within) (differ_distinct key xs h.1).differ;
}
  where
    new : (k : ℕ) (d : ℕ) → k < length (map key xs) → key x ≢ get_or (map key xs) k d
    new k d within same =
        let item = map_has key xs (get_or (map key xs) k d) (has_at (map key xs) k d within) in
        each_has (λ y. key y ≢ key x) xs item.0 h.0 item.1 (item.2 ∙ sym same)

pub distinct_differ : {K : Type 0} (key : K → ℕ) (xs : List K) → AreDistinct (map key xs) → DifferBy key xs
distinct_differ key [] h = tt
distinct_differ {K} key (x ∷ xs) h = (
  each_from (λ y. key y ≢ key x) xs new,
  distinct_differ key xs (record { differ = λ i j d lower within. h.differ (suc i) (suc j) d (omega (arith, lower)) (omega (arith, within)) }),
)
  where
    new : (z : K) → Has xs z → key z ≢ key x
    new z found same =
        let at = index_of (map key xs) (key z) (has_map key xs z found) in
        h.differ 0 (suc at.0) (key x) (omega arith) (omega (arith, at.1)) (sym same ∙ sym (at.2 (key x)))

-- a list that a sort made of different items rises
rises_from_sorted : {K : Type 0} {is_below : K → K → Bool} → IsStrictOrder is_below → (key : K → ℕ) (ys : List K) → DifferBy key ys → ((i j : ℕ) (d : K) → i ≤ j → j < length ys → is_below (get_or ys j d) (get_or ys i d) ≡ false) → Rises is_below ys
rises_from_sorted o key [] differ h = tt
rises_from_sorted {K} {is_below} o key (y ∷ ys) differ h = (
  each_from (λ z. is_below y z ≡ true) ys above,
  rises_from_sorted o key ys differ.1 (λ i j d upto within. h (suc i) (suc j) d (omega (arith, upto)) (omega (arith, within))),
)
  where
    above : (z : K) → Has ys z → is_below y z ≡ true
    above z found =
        let at = index_of ys z found in
        let not_below : is_below z y ≡ false = subst (λ w. is_below w y ≡ false) (at.2 y) (h 0 (suc at.0) y (omega arith) (omega (arith, at.1))) in
        other_way o y z (λ same. each_has (λ w. key w ≢ key y) ys z differ.0 found (sym (ap key same))) not_below

pub sorted_in_order : {K : Type 0} {is_below : K → K → Bool} → IsStrictOrder is_below → IsStrictWeakOrder is_below → (key : K → ℕ) (xs ys : List K) → DifferBy key xs → IsPermutation xs ys → IsSortedBy is_below ys → ys ≡ in_order is_below xs
sorted_in_order {K} {is_below} o weak key xs ys differ moved up =
    same_rising o ys (in_order is_below xs)
    (rises_from_sorted o key ys (differ_permuted key xs ys moved differ) (sorted_far is_below weak ys up))
    (rises_in_order o key xs differ)
    (λ z found. has_in_order is_below xs z (has_permuted ys xs z (IsPermutation-sym _ _ moved) found))
    (λ z found. has_permuted xs ys z moved (in_order_has is_below xs z found))

-- in a rising list, as many items are below one as stand before it
pub count_below : {K : Type 0} {is_below : K → K → Bool} → IsStrictOrder is_below → (xs : List K) (k : ℕ) (d : K) → Rises is_below xs → k < length xs → count_by (λ z. is_below z (get_or xs k d)) xs ≡ k
count_below o [] k d h within = absurd (omega arith)
count_below {K} {is_below} o (x ∷ xs) zero d h within =
    counts_none (λ z. is_below z x) x xs (o.irreflexive x) ∙ count_none (λ z. is_below z x) xs (each_from (λ z. is_below z x ≡ false) xs not_below)
  where
    not_below : (z : K) → Has xs z → is_below z x ≡ false
    not_below z found = elim (truth_of (is_below z x)) [
      | inl below ↦ absurd (not_both o x z (each_has (λ w. is_below x w ≡ true) xs z h.0 found) below)
      | inr fine ↦ fine
    ]
count_below {K} {is_below} o (x ∷ xs) (suc k) d h within =
    let inside : k < length xs = omega (arith, within) in
    let first = each_has (λ w. is_below x w ≡ true) xs (get_or xs k d) h.0 (has_at xs k d inside) in
    counts_one (λ z. is_below z (get_or xs k d)) x xs first ∙ omega (arith, count_below o xs k d h.1 inside)

-- filtered lists
filter_cases : {K : Type 0} (p : K → Bool) (x : K) (xs : List K) (P : List K → Type 0) → (p x ≡ true → P (x ∷ filter p xs)) → (p x ≡ false → P (filter p xs)) → P (filter p (x ∷ xs))
filter_cases p x xs P kept dropped = go (p x) refl
  where
    go : (b : Bool) → p x ≡ b → P (cond b (x ∷ filter p xs) (filter p xs))
    go true h = kept h
    go false h = dropped h

each_filter : {K : Type 0} (P : K → Type 0) (p : K → Bool) (xs : List K) → Each P xs → Each P (filter p xs)
each_filter P p [] h = tt
each_filter P p (x ∷ xs) h = let rest = each_filter P p xs h.1 in filter_cases p x xs (Each P) (λ kept. (h.0, rest)) (λ dropped. rest)

rises_filter : {K : Type 0} (is_below : K → K → Bool) (p : K → Bool) (xs : List K) → Rises is_below xs → Rises is_below (filter p xs)
rises_filter is_below p [] h = tt
rises_filter is_below p (x ∷ xs) h =
    let rest = rises_filter is_below p xs h.1 in
    filter_cases p x xs (Rises is_below) (λ kept. (each_filter (λ y. is_below x y ≡ true) p xs h.0, rest)) (λ dropped. rest)

pub differ_filter : {K : Type 0} (key : K → ℕ) (p : K → Bool) (xs : List K) → DifferBy key xs → DifferBy key (filter p xs)
differ_filter key p [] h = tt
differ_filter key p (x ∷ xs) h =
    let rest = differ_filter key p xs h.1 in
    filter_cases p x xs (DifferBy key) (λ kept. (each_filter (λ y. key y ≢ key x) p xs h.0, rest)) (λ dropped. rest)

pub filter_has : {K : Type 0} (p : K → Bool) (xs : List K) (z : K) → Has (filter p xs) z → Has xs z × (p z ≡ true)
filter_has p [] z found = absurd found
filter_has {K} p (x ∷ xs) z found = filter_cases p x xs (λ ys. Has ys z → Has (x ∷ xs) z × (p z ≡ true)) (both (filter_has p xs z)) (passed_over (filter_has p xs z)) found
  where
    passed_over : (Has (filter p xs) z → Has xs z × (p z ≡ true)) → p x ≡ false → Has (filter p xs) z → Has (x ∷ xs) z × (p z ≡ true)
    passed_over rest fails later = let found_later = rest later in (inr found_later.0, found_later.1)

    both : (Has (filter p xs) z → Has xs z × (p z ≡ true)) → p x ≡ true → Has (x ∷ filter p xs) z → Has (x ∷ xs) z × (p z ≡ true)
    both rest passes at = elim at [
      | inl here ↦ (inl here, subst (λ w. p w ≡ true) here passes)
      | inr later ↦ (let found_later = rest later in (inr found_later.0, found_later.1))
    ]

pub has_filter : {K : Type 0} (p : K → Bool) (xs : List K) (z : K) → Has xs z → p z ≡ true → Has (filter p xs) z
has_filter p [] z found h = absurd found
has_filter {K} p (x ∷ xs) z found h = elim found [
  | inl here ↦ filter_cases p x xs (λ ys. Has ys z) (λ kept. inl here) (λ dropped. absurd (clash (subst (λ w. p w ≡ true) (sym here) h) dropped))
  | inr later ↦ (let rest = has_filter p xs z later h in filter_cases p x xs (λ ys. Has ys z) (λ kept. inr rest) (λ dropped. rest))
]
  where
    clash : p x ≡ true → p x ≡ false → ⊥
    clash passes fails = cc

-- to filter and then to put in order is to put in order and then to filter
pub in_order-filter : {K : Type 0} {is_below : K → K → Bool} → IsStrictOrder is_below → (key : K → ℕ) (p : K → Bool) (xs : List K) → DifferBy key xs → in_order is_below (filter p xs) ≡ filter p (in_order is_below xs)
in_order-filter {K} {is_below} o key p xs differ =
    same_rising o (in_order is_below (filter p xs)) (filter p (in_order is_below xs))
    (rises_in_order o key (filter p xs) (differ_filter key p xs differ))
    (rises_filter is_below p (in_order is_below xs) (rises_in_order o key xs differ))
    (λ z found.
    let kept = filter_has p xs z (in_order_has is_below (filter p xs) z found) in
    has_filter p (in_order is_below xs) z (has_in_order is_below xs z kept.0) kept.1)
    (λ z found.
    let kept = filter_has p (in_order is_below xs) z found in
    has_in_order is_below (filter p xs) z (has_filter p xs z (in_order_has is_below xs z kept.0) kept.1))
