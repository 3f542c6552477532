-- The order of numbers.
use Rattle.std.proofs.Common.{◌≡◌, ℕ, ◌+◌, ◌<◌, ◌≤◌, nat_lt, Bool, true, false, List, get_or, refl, sym, ap, ◌∙◌, arith, IsPermutation, IsSortedBy}
use Rattle.std.specs.Cmp.{nat_cmp_is}
use Rattle.std.specs.declared.cmp.Ordering.TheVariants.{Less, Equal, Greater}
use Rattle.std.specs.Ordering.{is_lt, nat_cmp}
use Rattle.std.proofs.lemmas.Bool.Decides.{nat_tests}
use Rattle.std.proofs.lemmas.List.MinMax.{IsStrictWeakOrder-by_number}
use Rattle.partition_lists.specs.Lists.{in_order}
use Rattle.partition_lists.proofs.InOrderLaws.{DifferBy, IsStrictOrder, sorted_in_order}

pub lt_true : (a b : ℕ) → a < b → nat_lt a b ≡ true
lt_true a b h = grind (arith, nat_tests)

pub lt_false : (a b : ℕ) → b ≤ a → nat_lt a b ≡ false
lt_false a b h = grind (arith, nat_tests)

-- how two numbers stand
pub data Stand (a b : ℕ) : Type 0 where
  Below : a < b → Stand a b
  Same : a ≡ b → Stand a b
  Above : b < a → Stand a b

pub stand : (a b : ℕ) → Stand a b
stand a b = go (nat_lt a b) (nat_lt b a) refl refl
  where
    go : (p q : Bool) → nat_lt a b ≡ p → nat_lt b a ≡ q → Stand a b
    go true q h i = Below (grind (arith, nat_tests))
    go false true h i = Above (grind (arith, nat_tests))
    go false false h i = Same (grind (arith, nat_tests))

below_chain : (a b c : ℕ) → nat_lt a b ≡ true → nat_lt b c ≡ true → nat_lt a c ≡ true
below_chain a b c p q = grind (arith, nat_tests)

not_below_itself : (a : ℕ) → nat_lt a a ≡ false
not_below_itself a = grind (arith, nat_tests)

neither_below : (a b : ℕ) → nat_lt a b ≡ false → nat_lt b a ≡ false → a ≡ b
neither_below a b p q = grind (arith, nat_tests)

number_order : IsStrictOrder nat_lt
number_order = record { transitive = below_chain; irreflexive = not_below_itself; connected = neither_below }

pub below_is : (a b : ℕ) → is_lt (nat_cmp a b) ≡ nat_lt a b
below_is a b = at (stand a b)
  where
    at : Stand a b → is_lt (nat_cmp a b) ≡ nat_lt a b
    at (Stand.Below h) = ap is_lt (sym (nat_cmp_is a b Less h)) ∙ sym (lt_true a b h)
    at (Stand.Same h) = ap is_lt (sym (nat_cmp_is a b Equal h)) ∙ sym (lt_false a b (omega arith))
    at (Stand.Above h) = ap is_lt (sym (nat_cmp_is a b Greater h)) ∙ sym (lt_false a b (omega arith))

-- different numbers that are sorted are those in rising order
pub sorted_numbers : (key : ℕ → ℕ) (xs sorted : List ℕ) → DifferBy key xs → IsPermutation xs sorted → IsSortedBy (λ a b. is_lt (nat_cmp a b)) sorted → sorted ≡ in_order nat_lt xs
sorted_numbers key xs sorted differ moved rise =
    sorted_in_order number_order (IsStrictWeakOrder-by_number (λ (n : ℕ). n)) key xs sorted differ moved
    (λ k d from within. sym (below_is (get_or sorted (k + 1) d) (get_or sorted k d)) ∙ rise k d from within)
