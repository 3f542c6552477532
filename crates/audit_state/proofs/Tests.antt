-- Tests of numbers, and of what may be there.
use Rattle.std.proofs.Common.{◌≡◌, ℕ, ◌==◌, Bool, true, false, Option, Some, None, refl, ap, arith}
use Rattle.std.specs.Prelude.{unwrap_or, is_some}
use Rattle.std.proofs.lemmas.Bool.Decides.{nat_tests}
pub use Rattle.cluster_types.proofs.BoolFacts.{and_left, and_right}

pub differ : {C : Type 0} {b : Bool} → b ≡ true → b ≡ false → C
differ {C} {b} p q = absurd (grind arith)

pub number_same : (n m : ℕ) → (n == m) ≡ true → n ≡ m
number_same n m e = grind (arith, nat_tests)

pub some_same : {A : Type 0} {a b : A} → Some a ≡ Some b → a ≡ b
some_same {A} {a} {b} e = ap (λ (o : Option A). unwrap_or o a) e

pub no_some : {A : Type 0} {a : A} → None ≡ Some a → ⊥
no_some e = differ (ap is_some e) refl
