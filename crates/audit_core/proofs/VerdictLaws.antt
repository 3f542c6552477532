-- A journal is judged line by line.
use Rattle.std.proofs.Common.{◌≡◌, ℕ, zero, suc, ◌<◌, ◌≤◌, ◌+◌, List, [], ◌∷◌, ◌++◌, length, get_or, Some, refl, sym, ap, subst, ◌∙◌, add-one, arith}
use Rattle.std.specs.Prelude.{take, slice_get}
use Rattle.journal_lines.specs.declared.line.Line.{Line}
use Rattle.journal_readings.specs.Shape.{Shape}
use Rattle.journal_readings.proofs.AlongLaws.{no_some, some_same}
use Rattle.audit_laws.specs.Fits.{Fits, FitsShape}
use Rattle.audit_laws.specs.Lawful.{Lawful}
use Rattle.audit_laws.proofs.Places.{none_taken}
use Rattle.audit_laws.proofs.Steps.{shape_step, map_step, loss_step, settled_step, read_step, lawful_step, lawful_fronts}
use Rattle.audit_laws.specs.declared.law.Law.{Law}
use Rattle.audit_laws.specs.declared.law.Law.TheVariants as law
use Rattle.audit_core.specs.declared.verdict.Stop.{Stop}
use Rattle.audit_core.specs.declared.verdict.Stop.TheVariants as stop
use Rattle.audit_core.specs.declared.verdict.Verdict.{Verdict}
use Rattle.audit_core.specs.Verdicts.{KeepsLaw, KeepsBefore, FailsFirst, FitsBefore, BreaksFirst, StopsRightly, IsAnswer, IsVerdict}

-- ---- fronts

pub taken_more : (j : List Line) (i : ℕ) (l : Line) → slice_get j i ≡ Some l → take (suc i) j ≡ take i j ++ l ∷ []
taken_more [] i l e = absurd (no_some e)
taken_more (x ∷ j) zero l e = ap (λ (y : Line). y ∷ []) (some_same e)
taken_more (x ∷ j) (suc i) l e = ap (λ (ls : List Line). x ∷ ls) (taken_more j i l e)

pub taken_next : (j : List Line) (i : ℕ) (l : Line) → slice_get j i ≡ Some l → take (i + 1) j ≡ take i j ++ l ∷ []
taken_next j i l e = ap (λ (n : ℕ). take n j) (add-one i) ∙ taken_more j i l e

pub stands_within : (j : List Line) (i : ℕ) (l : Line) → slice_get j i ≡ Some l → i < length j
stands_within [] i l e = absurd (no_some e)
stands_within (x ∷ j) zero l e = omega arith
stands_within (x ∷ j) (suc i) l e = omega (arith, stands_within j i l e)

pub front_of_front : (a i : ℕ) (j : List Line) → a ≤ i → take a (take i j) ≡ take a j
front_of_front a i [] h = ap (take a) (none_taken i)
front_of_front zero zero (x ∷ j) h = refl
front_of_front zero (suc i) (x ∷ j) h = refl
front_of_front (suc a) zero (x ∷ j) h = absurd (omega (arith, h))
front_of_front (suc a) (suc i) (x ∷ j) h = ap (λ (ls : List Line). x ∷ ls) (front_of_front a i j (omega (arith, h)))

-- ---- the first line that doesn't fit

shaped : (b : List Line) (l : Line) → Lawful b → FitsShape b l → Shape (b ++ l ∷ [])
shaped b l h f = (shape_step b l).1 (h.shape, f)

kept_before : (x : Law) (b : List Line) (l : Line) → Lawful b → FitsBefore x b l → KeepsBefore x (b ++ l ∷ [])
kept_before law.Shape b l h f = tt
kept_before law.OneMap b l h f = shaped b l h f
kept_before law.NoLoss b l h f = let s : Shape (b ++ l ∷ []) = shaped b l h f.0 in (s, (map_step b l s).1 (h.one_map, f.1))
kept_before law.SettledJoin b l h f = let s : Shape (b ++ l ∷ []) = shaped b l h f.0 in (s, (map_step b l s).1 (h.one_map, f.1), (loss_step b l s).1 (h.no_loss, f.2))
kept_before law.ReadJoin b l h f = let s : Shape (b ++ l ∷ []) = shaped b l h f.0 in
    (s, (map_step b l s).1 (h.one_map, f.1), (loss_step b l s).1 (h.no_loss, f.2), (settled_step b l s).1 (h.settled_join, f.3))

broken_by : (x : Law) (b : List Line) (l : Line) → Lawful b → BreaksFirst x b l → ¬ KeepsLaw x (b ++ l ∷ [])
broken_by law.Shape b l h f k = f.broken ((shape_step b l).0 k).1
broken_by law.OneMap b l h f k = f.broken ((map_step b l (shaped b l h f.before)).0 k).1
broken_by law.NoLoss b l h f k = f.broken ((loss_step b l (shaped b l h f.before.0)).0 k).1
broken_by law.SettledJoin b l h f k = f.broken ((settled_step b l (shaped b l h f.before.0)).0 k).1
broken_by law.ReadJoin b l h f k = f.broken ((read_step b l (shaped b l h f.before.0)).0 k).1

pub fails_first : (j : List Line) (i : ℕ) (l : Line) (x : Law) → Lawful (take i j) → slice_get j i ≡ Some l → BreaksFirst x (take i j) l → FailsFirst j x (i + 1)
fails_first j i l x h e f = record {
  some = omega arith;
  within = omega (arith, stands_within j i l e);
  before = λ a lower. subst Lawful (front_of_front a i j (omega (arith, lower))) (lawful_fronts (take i j) h a);
  kept = subst (KeepsBefore x) (sym (taken_next j i l e)) (kept_before x (take i j) l h f.before);
  broken = subst (λ (ls : List Line). ¬ KeepsLaw x ls) (sym (taken_next j i l e)) (broken_by x (take i j) l h f);
}

pub lawful_next : (j : List Line) (i : ℕ) (l : Line) → Lawful (take i j) → slice_get j i ≡ Some l → Fits (take i j) l → Lawful (take (i + 1) j)
lawful_next j i l h e f = subst Lawful (sym (taken_next j i l e)) ((lawful_step (take i j) l).1 (h, f))

-- all of its lines are the journal
pub all_taken : (j : List Line) → take (length j) j ≡ j
all_taken [] = refl
all_taken (x ∷ j) = ap (λ (ls : List Line). x ∷ ls) (all_taken j)

-- ---- what an audit answers

pub answered : (x : Stop) (j : List Line) (i : ℕ) (l : Line) (answer : Verdict) → Lawful (take i j) → slice_get j i ≡ Some l → StopsRightly x (take i j) l → IsAnswer x i answer → IsVerdict j answer
answered stop.NoMemory j i l answer h e f a = absurd a
answered (stop.Breaks x) j i l answer h e f a = subst (IsVerdict j) (sym a) (fails_first j i l x h e f)

pub line_got : (j : List Line) (i : ℕ) (d : Line) → i < length j → slice_get j i ≡ Some (get_or j i d)
line_got [] i d h = absurd (omega (arith, h))
line_got (x ∷ j) zero d h = refl
line_got (x ∷ j) (suc i) d h = line_got j i d (omega (arith, h))
