-- The places of a journal at which a line passes a test.
use Rattle.std.proofs.Common.{◌≡◌, ℕ, zero, suc, Bool, true, false, List, [], ◌∷◌, Option, Some, None, refl, sym, subst, ◌∙◌}
use Rattle.std.specs.Prelude.{take, slice_get, option_and_then}
use Rattle.std.specs.List.{list_any}
use Rattle.cluster_types.proofs.BoolFacts.{neither_left as or_left, neither_right as or_right}
use Rattle.journal_lines.specs.declared.line.Line.{Line}
use Rattle.journal_readings.proofs.AlongLaws.{some_same, no_some}

-- the claim besides the others where the test holds, and otherwise the others
abbrev pub Besides : Bool → Type 0 → Type 0 → Type 0
Besides true A B = A × B
Besides false A B = B

-- the claim holds at each place at which the test passes
abbrev pub AllPlaces : (ℕ → Line → Bool) → (ℕ → Type 0) → List Line → Type 0
AllPlaces test P [] = Unit {0}
AllPlaces test P (l ∷ ls) = Besides (test 0 l) (P 0) (AllPlaces (λ i. test (suc i)) (λ i. P (suc i)) ls)

here : (b : Bool) (A B : Type 0) → Besides b A B → b ≡ true → A
here true A B h e = h.0
here false A B h e = cc

others : (b : Bool) (A B : Type 0) → Besides b A B → B
others true A B h = h.1
others false A B h = h

pub at_place : (test : ℕ → Line → Bool) (P : ℕ → Type 0) (j : List Line) → AllPlaces test P j → (i : ℕ) (l : Line) → slice_get j i ≡ Some l → test i l ≡ true → P i
at_place test P [] h i l e t = absurd (no_some e)
at_place test P (x ∷ j) h zero l e t = here (test 0 x) (P 0) _ h (subst (λ (y : Line). test 0 y ≡ true) (sym (some_same e)) t)
at_place test P (x ∷ j) h (suc i) l e t = at_place (λ n. test (suc n)) (λ n. P (suc n)) j (others (test 0 x) (P 0) _ h) i l e t

-- a line that the lines of a front have passes no test that none passes
pub none_in_front : (test : Line → Bool) (j : List Line) → list_any test j ≡ false → (n i : ℕ) (l : Line) → slice_get (take n j) i ≡ Some l → test l ≡ true → ⊥
none_in_front test [] none zero i l e t = no_some e
none_in_front test [] none (suc n) i l e t = no_some e
none_in_front test (x ∷ j) none zero i l e t = no_some e
none_in_front test (x ∷ j) none (suc n) zero l e t = differ (sym t ∙ subst (λ (y : Line). test y ≡ false) (some_same e) (or_left (test x) _ none))
  where
    differ : true ≡ false → ⊥
    differ i = cc
none_in_front test (x ∷ j) none (suc n) (suc i) l e t = none_in_front test j (or_right (test x) _ none) n i l e t

-- what is made of an option is something only where that is something
pub what_is : {A B : Type 0} (f : A → Option B) (o : Option A) (y : B) → option_and_then f o ≡ Some y → (x : A) × (o ≡ Some x)
what_is f None y e = absurd (no_some e)
what_is f (Some x) y e = (x, refl)
