-- What is noted of stamps, as one line more comes.
use Rattle.std.proofs.Common.{◌≡◌, ℕ, ◌==◌, ◌<◌, ◌≤◌, ◌+◌, Bool, true, false, ◌&&◌, cond, List, [], ◌∷◌, ◌++◌, length, Option, Some, None, ◌⊎◌, inl, inr, refl, sym, ap, ap₂, subst, ◌∙◌, append-nil, length-append, arith}
use Rattle.std.specs.Prelude.{take, slice_get, option_and_then, All}
use Rattle.std.proofs.lemmas.Bool.{cases_eq}
use Rattle.std.proofs.lemmas.List.{take-append-le, length_push}
use Rattle.std.proofs.lemmas.List.Elements.{All-head, All-tail, All-push, All-weaker}
use Rattle.journal_lines.specs.declared.line.Line.{Line}
use Rattle.journal_readings.specs.Lines.{has_node}
use Rattle.audit_laws.proofs.Tests.{number_here}
use Rattle.audit_state.specs.declared.history.Change.{Change}
use Rattle.audit_state.specs.declared.stamps.Stamps.{Stamps}
use Rattle.audit_state.specs.Histories.{AreBelow}
use Rattle.audit_core.specs.Stamped.{StandInOrder, SeesStamps, mark_of, change_at, whole_of, makes_whole, makes_whole_at, exchanged_places}
use Rattle.audit_state.specs.Stamps.{stamp_marks, judged_of, wholes_of}
use Rattle.audit_core.specs.NextFrames.{mark_changes, NextStamps}
use Rattle.audit_core.proofs.LineLaws.{slice_here, slice_end, slice_other, front_same, not_same, finished_more, finished_now, finished_below, among_first}

-- ---- changes

abbrev pub or_else : {A : Type 0} → Option A → Option A → Option A
or_else None o = o
or_else (Some x) o = Some x

pub change_more : (cs ds : List Change) (a : ℕ) → change_at (cs ++ ds) a ≡ or_else (change_at cs a) (change_at ds a)
change_more [] ds a = refl
change_more (c ∷ cs) ds a = go (c.line == a) (change_more cs ds a)
  where
    go : (b : Bool) → change_at (cs ++ ds) a ≡ or_else (change_at cs a) (change_at ds a) → cond b (Some c.value) (change_at (cs ++ ds) a) ≡ or_else (cond b (Some c.value) (change_at cs a)) (change_at ds a)
    go true e = refl
    go false e = e

marked_here : (place : ℕ) (o : Option (Option ℕ)) → change_at (mark_changes place o) place ≡ o
marked_here place None = refl
marked_here place (Some value) = ap (λ (b : Bool). cond b (Some value) None) (number_here place)

marked_other : (place a : ℕ) (o : Option (Option ℕ)) → (a ≡ place → ⊥) → change_at (mark_changes place o) a ≡ None
marked_other place a None apart = refl
marked_other place a (Some value) apart = ap (λ (b : Bool). cond b (Some value) None) (not_same a place apart)

pub or_none : {A : Type 0} (o : Option A) → or_else o None ≡ o
or_none None = refl
or_none (Some x) = refl

below_more : (j : List Line) (l : Line) (cs : List Change) (o : Option (Option ℕ)) → AreBelow (length j) cs → AreBelow (length (j ++ l ∷ [])) (cs ++ mark_changes (length j) o)
below_more j l cs None h = subst (AreBelow (length (j ++ l ∷ []))) (sym (append-nil cs)) (wider j l cs h)
  where
    wider : (j : List Line) (l : Line) (cs : List Change) → AreBelow (length j) cs → AreBelow (length (j ++ l ∷ [])) cs
    wider j l cs h = All-weaker (λ (c : Change). c.line < length j) (λ (c : Change). c.line < length (j ++ l ∷ [])) (λ c below. omega (arith, below, length_push j l)) cs h
below_more j l cs (Some value) h =
    All-push (λ (c : Change). c.line < length (j ++ l ∷ [])) cs (record { line = length j; value = value })
    (All-weaker (λ (c : Change). c.line < length j) (λ (c : Change). c.line < length (j ++ l ∷ [])) (λ c below. omega (arith, below, length_push j l)) cs h)
    (omega (arith, length_push j l))

pub rising_push : (cs : List Change) (c : Change) → StandInOrder cs → All (λ (d : Change). d.line < c.line) cs → StandInOrder (cs ++ c ∷ [])
rising_push [] c h below = (λ k d within. absurd (omega (arith, within)), tt)
rising_push (x ∷ cs) c h below = (
  All-push (λ (d : Change). x.line < d.line) cs c h.0 (All-head (λ (d : Change). d.line < c.line) x cs below),
  rising_push cs c h.1 (All-tail (λ (d : Change). d.line < c.line) x cs below),
)

rising_more : (j : List Line) (cs : List Change) (o : Option (Option ℕ)) → StandInOrder cs → AreBelow (length j) cs → StandInOrder (cs ++ mark_changes (length j) o)
rising_more j cs None h below = subst StandInOrder (sym (append-nil cs)) h
rising_more j cs (Some value) h below = rising_push cs (record { line = length j; value = value }) h below

-- ---- the step

marks_step : (j : List Line) (l : Line) (n p : ℕ) (cs : List Change) → ((a : ℕ) → change_at cs a ≡ option_and_then (mark_of n p a) (slice_get j a))
    → (a : ℕ) → change_at (cs ++ mark_changes (length j) (mark_of n p (length j) l)) a ≡ option_and_then (mark_of n p a) (slice_get (j ++ l ∷ []) a)
marks_step j l n p cs h a = change_more cs (mark_changes (length j) (mark_of n p (length j) l)) a ∙ go (cases_eq a (length j))
  where
    here : or_else (change_at cs (length j)) (change_at (mark_changes (length j) (mark_of n p (length j) l)) (length j)) ≡ option_and_then (mark_of n p (length j)) (slice_get (j ++ l ∷ []) (length j))
    here =
        ap₂ (λ (x y : Option (Option ℕ)). or_else x y) (h (length j) ∙ ap (option_and_then (mark_of n p (length j))) (slice_end j)) (marked_here (length j) (mark_of n p (length j) l))
        ∙ sym (ap (option_and_then (mark_of n p (length j))) (slice_here j l))

    go : (a ≡ length j) ⊎ (a ≡ length j → ⊥) → or_else (change_at cs a) (change_at (mark_changes (length j) (mark_of n p (length j) l)) a) ≡ option_and_then (mark_of n p a) (slice_get (j ++ l ∷ []) a)
    go (inl e) = subst (λ (b : ℕ). or_else (change_at cs b) (change_at (mark_changes (length j) (mark_of n p (length j) l)) b) ≡ option_and_then (mark_of n p b) (slice_get (j ++ l ∷ []) b)) (sym e) here
    go (inr apart) =
        ap (or_else (change_at cs a)) (marked_other (length j) a (mark_of n p (length j) l) apart)
        ∙ (or_none (change_at cs a) ∙ (h a ∙ ap (option_and_then (mark_of n p a)) (sym (slice_other j l a apart))))

first_finished : (n : ℕ) (j : List Line) (l : Line) (count : ℕ) → count ≤ length (exchanged_places n j) → take count (exchanged_places n (j ++ l ∷ [])) ≡ take count (exchanged_places n j)
first_finished n j l count h = ap (take count) (finished_more n j l) ∙ take-append-le count (exchanged_places n j) (finished_now n (length j) l) h

wholes_step : (factor : ℕ) (j : List Line) (l : Line) (n p count : ℕ) (a : ℕ) (b : Bool) → has_node (take count (exchanged_places n j)) a ≡ b
    → whole_of (b && makes_whole_at factor n p j a (slice_get j a)) a ≡ whole_of (b && makes_whole_at factor n p (j ++ l ∷ []) a (slice_get (j ++ l ∷ []) a)) a
wholes_step factor j l n p count a false e = refl
wholes_step factor j l n p count a true e =
    let below : a < length j = finished_below n j a (among_first count (exchanged_places n j) a e)
    in
    let apart : (a ≡ length j → ⊥) = λ (q : a ≡ length j). omega arith in
    ap (λ (b : Bool). whole_of b a) (same below (slice_get j a) (slice_get (j ++ l ∷ []) a) (slice_other j l a apart))
  where
    same : a < length j → (o q : Option Line) → q ≡ o → makes_whole_at factor n p j a o ≡ makes_whole_at factor n p (j ++ l ∷ []) a q
    same below o q i = subst (λ (z : Option Line). makes_whole_at factor n p j a o ≡ makes_whole_at factor n p (j ++ l ∷ []) a z) (sym i) (fronts below o)
      where
        fronts : a < length j → (o : Option Line) → makes_whole_at factor n p j a o ≡ makes_whole_at factor n p (j ++ l ∷ []) a o
        fronts below None = refl
        fronts below (Some x) = ap (λ (ls : List Line). makes_whole factor n p ls x) (sym (front_same j l a below))

-- a line sets a mark, or none, and what was judged stays
pub stamps_more : (factor : ℕ) (j : List Line) (l : Line) (n p : ℕ) (x y : Option Stamps) → SeesStamps factor j n p x → NextStamps n p (length j) l x y → SeesStamps factor (j ++ l ∷ []) n p y
stamps_more factor j l n p x y h next =
    let m : stamp_marks y ≡ stamp_marks x ++ mark_changes (length j)
    (mark_of n p (length j) l) = next.marks in
    let c : judged_of y ≡ judged_of x = next.judged in
    let w : wholes_of y ≡ wholes_of x = next.wholes in
    let first : take (judged_of y) (exchanged_places n (j ++ l ∷ [])) ≡ take (judged_of x) (exchanged_places n j) = ap (λ (i : ℕ). take i (exchanged_places n (j ++ l ∷ []))) c ∙ first_finished n j l (judged_of x) h.judged in
    record {
      marks = λ a. ap (λ (cs : List Change). change_at cs a) m ∙ marks_step j l n p (stamp_marks x) h.marks a;
      mark_lines = subst (AreBelow (length (j ++ l ∷ []))) (sym m) (below_more j l (stamp_marks x) (mark_of n p (length j) l) h.mark_lines);
      mark_order = subst StandInOrder (sym m) (rising_more j (stamp_marks x) (mark_of n p (length j) l) h.mark_order h.mark_lines);
      whole_order = subst StandInOrder (sym w) h.whole_order;
      judged = let longer : length (exchanged_places n (j ++ l ∷ [])) ≡ length (exchanged_places n j) + length (finished_now n (length j) l) = ap length (finished_more n j l) ∙ length-append (exchanged_places n j) (finished_now n (length j) l) in
          omega (arith, c, h.judged, longer);
      wholes = λ a. ap (λ (cs : List Change). change_at cs a) w ∙ (h.wholes a
          ∙ (wholes_step factor j l n p (judged_of x) a (has_node (take (judged_of x) (exchanged_places n j)) a) refl
          ∙ ap (λ (ns : List ℕ). whole_of (has_node ns a && makes_whole_at factor n p (j ++ l ∷ []) a (slice_get (j ++ l ∷ []) a)) a) (sym first)));
      whole_lines = subst (λ (ns : List ℕ). All (λ (d : Change). has_node ns d.line ≡ true) (wholes_of y)) (sym first) (subst (All (λ (d : Change). has_node (take (judged_of x) (exchanged_places n j)) d.line ≡ true)) (sym w) h.whole_lines);
    }
