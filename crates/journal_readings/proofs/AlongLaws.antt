-- What holds along a journal holds at each of its lines.
use Rattle.std.proofs.Common.{◌≡◌, ℕ, zero, suc, Bool, true, false, ◌&&◌, List, [], ◌∷◌, ◌++◌, Option, Some, None, sym, ap, subst, ◌∙◌, append_assoc, append-nil}
use Rattle.std.specs.Prelude.{take, slice_get, is_some, unwrap_or, IsTrue}
use Rattle.std.proofs.lemmas.Bool.{and_parts as and_true}
use Rattle.journal_lines.specs.declared.line.Line.{Line}
use Rattle.journal_lines.specs.declared.line.Line.TheVariants as line
use Rattle.journal_readings.specs.Claims.{OneMap, ShowsMap}

-- each line has the property, seen with the lines before it
abbrev pub AllAlong : (List Line → Line → Type 0) → List Line → List Line → Type 0
AllAlong P before [] = Unit {0}
AllAlong P before (l ∷ ls) = P before l × AllAlong P (before ++ l ∷ []) ls

-- each line passes the test, seen with the lines before it
abbrev pub all_along : (List Line → Line → Bool) → List Line → List Line → Bool
all_along test before [] = true
all_along test before (l ∷ ls) = test before l && all_along test (before ++ l ∷ []) ls

pub some_same : {A : Type 0} {a b : A} → Some a ≡ Some b → a ≡ b
some_same {A} {a} {b} e = ap (λ (o : Option A). unwrap_or o a) e

pub no_some : {A : Type 0} {a : A} → None ≡ Some a → ⊥
no_some e = differ (ap is_some e)
  where
    differ : false ≡ true → ⊥
    differ i = cc

each_from : (P : List Line → Line → Type 0) (before j : List Line) → AllAlong P before j → (i : ℕ) (l : Line) → slice_get j i ≡ Some l → P (before ++ take i j) l
each_from P before [] h i l e = absurd (no_some e)
each_from P before (x ∷ j) h zero l e = subst (λ (b : List Line). P b l) (sym (append-nil before)) (subst (P before) (some_same e) h.0)
each_from P before (x ∷ j) h (suc i) l e = subst (λ (b : List Line). P b l) (append_assoc before (x ∷ []) (take i j)) (each_from P (before ++ x ∷ []) j h.1 i l e)

pub each : (P : List Line → Line → Type 0) (j : List Line) → AllAlong P [] j → (i : ℕ) (l : Line) → slice_get j i ≡ Some l → P (take i j) l
each P j h i l e = each_from P [] j h i l e

tested : (test : List Line → Line → Bool) (before j : List Line) → all_along test before j ≡ true → AllAlong (λ b l. IsTrue (test b l)) before j
tested test before [] e = tt
tested test before (l ∷ ls) e = let x : (test before l ≡ true) × (all_along test (before ++ l ∷ []) ls ≡ true) = and_true _ _ e in (x.0, tested test (before ++ l ∷ []) ls x.1)

pub each_passes : (test : List Line → Line → Bool) (j : List Line) → all_along test [] j ≡ true → (i : ℕ) (l : Line) → slice_get j i ≡ Some l → IsTrue (test (take i j) l)
each_passes test j e = each (λ b l. IsTrue (test b l)) j (tested test [] j e)

-- map lines that each show the map of the members and their rows agree with one another
pub one_map : (j : List Line) → ((i : ℕ) (l : Line) → slice_get j i ≡ Some l → ShowsMap j l) → OneMap j
one_map j h = record {
  shown = h;
  same = λ i o n m p k ms others a b e f.
      let x : ShowsMap j (line.Map n k p ms a) = h i (line.Map n k p ms a) e in
      let y : ShowsMap j (line.Map m k p others b) = h o (line.Map m k p others b) f in
      (x.0 ∙ sym y.0, x.1 ∙ sym y.1);
}
