-- Ids in rising and in falling order.
use Rattle.std.proofs.Common.{◌≡◌, ℕ, ◌+◌, ◌<◌, Bool, true, false, get_or, List, [], ◌∷◌, length, map, filter, IsPermutation, IsSortedBy, refl, sym, ap, subst, ◌∙◌, arith}
use Rattle.std.specs.Prelude.{nat_lt, if◌then◌else◌}
use Rattle.std.specs.Cmp.{IsStrictWeakOrder, nat_cmp_is}
use Rattle.std.specs.declared.cmp.Ordering.TheVariants.{Less, Equal, Greater}
use Rattle.std.specs.Ordering.{is_lt, nat_cmp}
use Rattle.std.proofs.lemmas.Bool.Decides.{nat_tests}
use Rattle.std.proofs.lemmas.List.MinMax.{IsStrictWeakOrder-by_number, IsStrictWeakOrder-flip}
use Rattle.std.proofs.lemmas.List.Sorted.{length_permutation}
use Rattle.cluster_types.specs.Distinct.{AreDistinct}
use Rattle.cluster_types.specs.NodeLists.{IsNodeList}
use Rattle.partition_lists.specs.Lists.{in_order, put_in_order}
use Rattle.partition_lists.proofs.InOrderLaws.{IsStrictOrder, DifferBy, distinct_differ, differ_distinct, differ_in_order, has_in_order, in_order-filter, in_order_has, rises_in_order, same_rising, sorted_in_order}

pub rising_order : IsStrictOrder nat_lt
rising_order = record {
  transitive = λ a b c p q. grind (arith, nat_tests, p, q);
  irreflexive = λ a. grind (arith, nat_tests);
  connected = λ a b p q. grind (arith, nat_tests, p, q);
}

pub falling_order : IsStrictOrder (λ m n. nat_lt n m)
falling_order = record {
  transitive = λ a b c p q. grind (arith, nat_tests, p, q);
  irreflexive = λ a. grind (arith, nat_tests);
  connected = λ a b p q. grind (arith, nat_tests, p, q);
}

weak_rising : IsStrictWeakOrder nat_lt
weak_rising = IsStrictWeakOrder-by_number (λ (n : ℕ). n)

pub weak_falling : IsStrictWeakOrder (λ m n. nat_lt n m)
weak_falling = IsStrictWeakOrder-flip nat_lt weak_rising

map_same : (ms : List ℕ) → map (λ (m : ℕ). m) ms ≡ ms
map_same [] = refl
map_same (m ∷ ms) = ap (λ xs. m ∷ xs) (map_same ms)

pub differ : (ids : List ℕ) → AreDistinct ids → DifferBy (λ (m : ℕ). m) ids
differ ids h = distinct_differ (λ (m : ℕ). m) ids (subst AreDistinct (sym (map_same ids)) h)

pub distinct_in_order : (is_below : ℕ → ℕ → Bool) (ids : List ℕ) → AreDistinct ids → AreDistinct (in_order is_below ids)
distinct_in_order is_below ids h = subst AreDistinct (map_same (in_order is_below ids)) (differ_distinct (λ (m : ℕ). m) (in_order is_below ids) (differ_in_order is_below (λ (m : ℕ). m) ids (differ ids h)))

-- what a sort makes of distinct ids
pub sorted_rising : (ids sorted : List ℕ) → AreDistinct ids → IsPermutation ids sorted → IsSortedBy nat_lt sorted → sorted ≡ in_order nat_lt ids
sorted_rising ids sorted h moved up = sorted_in_order rising_order weak_rising (λ (m : ℕ). m) ids sorted (differ ids h) moved up

pub sorted_falling : (ids sorted : List ℕ) → AreDistinct ids → IsPermutation ids sorted → IsSortedBy (λ m n. nat_lt n m) sorted → sorted ≡ in_order (λ m n. nat_lt n m) ids
sorted_falling ids sorted h moved up = sorted_in_order falling_order weak_falling (λ (m : ℕ). m) ids sorted (differ ids h) moved up

-- the up nodes in rising order
pub filter_rising : (p : ℕ → Bool) (ids : List ℕ) → AreDistinct ids → filter p (in_order nat_lt ids) ≡ in_order nat_lt (filter p ids)
filter_rising p ids h = sym (in_order-filter rising_order (λ (m : ℕ). m) p ids (differ ids h))

-- to put images in order is to put in order, where the order is that of what they are images of
map_put : {A : Type 0} (f : ℕ → A) (below : ℕ → ℕ → Bool) (under : A → A → Bool) → ((m n : ℕ) → under (f m) (f n) ≡ below m n) → (x : ℕ) (xs : List ℕ) → put_in_order under (f x) (map f xs) ≡ map f (put_in_order below x xs)
map_put f below under same x [] = refl
map_put {A} f below under same x (y ∷ xs) =
    ap (λ b. if b then f y ∷ put_in_order under (f x) (map f xs) else (f x ∷ f y ∷ map f xs)) (same y x)
    ∙ go (below y x) (map_put f below under same x xs)
  where
    go : (b : Bool) → put_in_order under (f x) (map f xs) ≡ map f (put_in_order below x xs)
        → (if b then f y ∷ put_in_order under (f x) (map f xs) else (f x ∷ f y ∷ map f xs)) ≡ map f (if b then y ∷ put_in_order below x xs else (x ∷ y ∷ xs))
    go true e = ap (λ (zs : List A). f y ∷ zs) e
    go false e = refl

pub map_in_order : {A : Type 0} (f : ℕ → A) (below : ℕ → ℕ → Bool) (under : A → A → Bool) → ((m n : ℕ) → under (f m) (f n) ≡ below m n) → (xs : List ℕ) → in_order under (map f xs) ≡ map f (in_order below xs)
map_in_order f below under same [] = refl
map_in_order {A} f below under same (x ∷ xs) = ap (put_in_order under (f x)) (map_in_order f below under same xs) ∙ map_put f below under same x (in_order below xs)

-- ---- sorted lists of ids

pub below_is : (a b : ℕ) → is_lt (nat_cmp a b) ≡ nat_lt a b
below_is a b = go (nat_lt a b) (nat_lt b a) refl refl
  where
    go : (x y : Bool) → nat_lt a b ≡ x → nat_lt b a ≡ y → is_lt (nat_cmp a b) ≡ nat_lt a b
    go true y e f = let h : a < b = grind (arith, nat_tests, e) in ap is_lt (sym (nat_cmp_is a b Less h)) ∙ sym e
    go false true e f = let h : b < a = grind (arith, nat_tests, f) in ap is_lt (sym (nat_cmp_is a b Greater h)) ∙ sym e
    go false false e f = let h : a ≡ b = grind (arith, nat_tests, e, f) in ap is_lt (sym (nat_cmp_is a b Equal h)) ∙ sym e

-- what is sorted by comparing rises
pub compared_rising : (sorted : List ℕ) → IsSortedBy (λ a b. is_lt (nat_cmp a b)) sorted → IsSortedBy nat_lt sorted
compared_rising sorted up = λ k d from within. sym (below_is (get_or sorted (k + 1) d) (get_or sorted k d)) ∙ up k d from within

pub list_rising : (ids sorted : List ℕ) → IsNodeList ids → IsPermutation ids sorted → IsSortedBy nat_lt sorted → IsNodeList sorted
list_rising ids sorted h moved up = record {
  limit = let same : length sorted ≡ length ids = length_permutation ids sorted moved in omega (arith, same, h.limit);
  distinct = subst AreDistinct (sym (sorted_rising ids sorted h.distinct moved up)) (distinct_in_order nat_lt ids h.distinct);
}

pub list_falling : (ids sorted : List ℕ) → IsNodeList ids → IsPermutation ids sorted → IsSortedBy (λ m n. nat_lt n m) sorted → IsNodeList sorted
list_falling ids sorted h moved down = record {
  limit = let same : length sorted ≡ length ids = length_permutation ids sorted moved in omega (arith, same, h.limit);
  distinct = subst AreDistinct (sym (sorted_falling ids sorted h.distinct moved down)) (distinct_in_order (λ m n. nat_lt n m) ids h.distinct);
}
