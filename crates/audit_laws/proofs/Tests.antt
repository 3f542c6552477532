-- Tests of numbers, and of the items of a list.
use Rattle.std.proofs.Common.{◌≡◌, ℕ, ◌==◌, Bool, true, false, List, [], ◌∷◌, arith}
use Rattle.std.specs.List.{list_all}
use Rattle.std.proofs.lemmas.Bool.{and_from}
use Rattle.std.proofs.lemmas.Bool.Decides.{nat_tests}
use Rattle.journal_readings.proofs.Fronts.{and_left, and_right}

pub differ : {C : Type 0} {b : Bool} → b ≡ true → b ≡ false → C
differ {C} {b} p q = absurd (grind arith)

pub number_same : (n m : ℕ) → (n == m) ≡ true → n ≡ m
number_same n m e = grind (arith, nat_tests)

pub number_here : (n : ℕ) → (n == n) ≡ true
number_here n = grind (arith, nat_tests)

-- what each item that passes one test passes, all pass
pub all-wider : {A : Type 0} (f g : A → Bool) → ((x : A) → f x ≡ true → g x ≡ true) → (xs : List A) → list_all f xs ≡ true → list_all g xs ≡ true
all-wider f g h [] e = e
all-wider f g h (x ∷ xs) e = and_from (g x) _ (h x (and_left (f x) _ e)) (all-wider f g h xs (and_right (f x) _ e))
