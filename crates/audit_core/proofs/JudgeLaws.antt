-- One `exchanged` line more is judged.
use Rattle.std.proofs.Common.{◌≡◌, ℕ, zero, suc, ◌==◌, ◌<◌, ◌≤◌, ◌+◌, Bool, true, false, ◌&&◌, ◌||◌, cond, List, [], ◌∷◌, ◌++◌, length, Option, Some, None, ◌⊎◌, inl, inr, refl, sym, ap, ap₂, subst, ◌∙◌, append-nil, add-one, arith}
use Rattle.std.specs.Prelude.{take, slice_get, All}
use Rattle.std.proofs.lemmas.Bool.{cases_eq, or_left}
use Rattle.std.proofs.lemmas.List.Elements.{All-head, All-tail, All-push, All-weaker}
use Rattle.std.proofs.lemmas.List.Folds.{list_any-append}
use Rattle.journal_readings.specs.Lines.{has_node}
use Rattle.journal_readings.proofs.AlongLaws.{no_some, some_same}
use Rattle.audit_laws.proofs.Tests.{differ, number_here, number_same}
use Rattle.audit_state.specs.declared.history.Change.{Change}
use Rattle.audit_core.specs.declared.judge.Judge.{Judge}
use Rattle.audit_state.specs.declared.stamps.Stamps.{Stamps}
use Rattle.audit_state.specs.Histories.{AreUpTo}
use Rattle.audit_core.specs.Known.{node_at, stamps_at}
use Rattle.audit_core.specs.Stamped.{StandInOrder, change_at, whole_of}
use Rattle.audit_state.specs.Stamps.{judged_of, wholes_of, whole_changes}
use Rattle.audit_core.specs.Steps.{ChangesStamps, SameStamps, HasJudged}
use Rattle.audit_core.specs.Wholes.{AreAscending, JudgesRight, JudgesSome, exchanged_by}
use Rattle.audit_core.specs.Wholes.{makes_whole}
use Rattle.audit_core.proofs.LineLaws.{not_same}
use Rattle.audit_core.proofs.ShapeLaws.{declared_last}
use Rattle.audit_core.proofs.StampLaws.{or_else, change_more, or_none, rising_push}

-- ---- numbers that rise

taken_number : (ns : List ℕ) (i a : ℕ) → slice_get ns i ≡ Some a → take (suc i) ns ≡ take i ns ++ a ∷ []
taken_number [] i a e = absurd (no_some e)
taken_number (n ∷ ns) zero a e = ap (λ (m : ℕ). m ∷ []) (some_same e)
taken_number (n ∷ ns) (suc i) a e = ap (λ (ms : List ℕ). n ∷ ms) (taken_number ns i a e)

pub number_within : (ns : List ℕ) (i a : ℕ) → slice_get ns i ≡ Some a → i < length ns
number_within [] i a e = absurd (no_some e)
number_within (n ∷ ns) zero a e = omega arith
number_within (n ∷ ns) (suc i) a e = omega (arith, number_within ns i a e)

all_at : (P : ℕ → Type 0) (ns : List ℕ) (i a : ℕ) → All P ns → slice_get ns i ≡ Some a → P a
all_at P [] i a h e = absurd (no_some e)
all_at P (n ∷ ns) zero a h e = subst P (some_same e) (All-head P n ns h)
all_at P (n ∷ ns) (suc i) a h e = all_at P ns i a (All-tail P n ns h) e

pub rising_under : (ns : List ℕ) (i a b : ℕ) → AreAscending ns → slice_get ns i ≡ Some a → has_node (take i ns) b ≡ true → b < a
rising_under [] i a b r e h = absurd (no_some e)
rising_under (n ∷ ns) zero a b r e h = differ h refl
rising_under (n ∷ ns) (suc i) a b r e h = go (n == b) refl h (rising_under ns i a b r.1 e)
  where
    go : (c : Bool) → (n == b) ≡ c → (c || has_node (take i ns) b) ≡ true → (has_node (take i ns) b ≡ true → b < a) → b < a
    go true q f rest = subst (λ (m : ℕ). m < a) (number_same n b q) (all_at (λ (m : ℕ). n < m) ns i a r.0 e)
    go false q f rest = rest f

not_yet : (ns : List ℕ) (i a : ℕ) → AreAscending ns → slice_get ns i ≡ Some a → has_node (take i ns) a ≡ false
not_yet ns i a r e = go (has_node (take i ns) a) refl
  where
    go : (b : Bool) → has_node (take i ns) a ≡ b → b ≡ false
    go false q = refl
    go true q = let below : a < a = rising_under ns i a a r e q in absurd (omega arith)

-- ---- the change of a line that is judged

whole_here : (w : Bool) (a : ℕ) → change_at (whole_changes w a) a ≡ whole_of w a
whole_here true a = ap (λ (b : Bool). cond b (Some (Some a)) None) (number_here a)
whole_here false a = refl

whole_apart : (w : Bool) (a b : ℕ) → (b ≡ a → ⊥) → change_at (whole_changes w a) b ≡ None
whole_apart true a b apart = ap (λ (c : Bool). cond c (Some (Some a)) None) (not_same b a apart)
whole_apart false a b apart = refl

still_among : (ns : List ℕ) (a b : ℕ) → (b ≡ a → ⊥) → has_node (ns ++ a ∷ []) b ≡ has_node ns b
still_among ns a b apart =
    list_any-append (λ m. m == b) ns (a ∷ []) ∙ (ap (λ (c : Bool). has_node ns b || (c || false)) (other a b apart) ∙ one (has_node ns b))
  where
    one : (c : Bool) → (c || false) ≡ c
    one true = refl
    one false = refl

    other : (a b : ℕ) → (b ≡ a → ⊥) → (a == b) ≡ false
    other a b apart = not_same b a apart

wholes_judged : (ns : List ℕ) (cs : List Change) (i a : ℕ) (test : ℕ → Bool) → AreAscending ns → slice_get ns i ≡ Some a
    → ((b : ℕ) → change_at cs b ≡ whole_of (has_node (take i ns) b && test b) b)
    → (b : ℕ) → change_at (cs ++ whole_changes (test a) a) b ≡ whole_of (has_node (take i ns ++ a ∷ []) b && test b) b
wholes_judged ns cs i a test r e h b = change_more cs (whole_changes (test a) a) b ∙ go (cases_eq b a)
  where
    here : or_else (change_at cs a) (change_at (whole_changes (test a) a) a) ≡ whole_of (has_node (take i ns ++ a ∷ []) a && test a) a
    here =
        ap₂ (λ (x y : Option (Option ℕ)). or_else x y) (h a ∙ ap (λ (c : Bool). whole_of (c && test a) a) (not_yet ns i a r e)) (whole_here (test a) a)
        ∙ sym (ap (λ (c : Bool). whole_of (c && test a) a) (declared_last (take i ns) a))

    go : (b ≡ a) ⊎ (b ≡ a → ⊥) → or_else (change_at cs b) (change_at (whole_changes (test a) a) b) ≡ whole_of (has_node (take i ns ++ a ∷ []) b && test b) b
    go (inl q) = subst (λ (x : ℕ). or_else (change_at cs x) (change_at (whole_changes (test a) a) x) ≡ whole_of (has_node (take i ns ++ a ∷ []) x && test x) x) (sym q) here
    go (inr apart) =
        ap (or_else (change_at cs b)) (whole_apart (test a) a b apart)
        ∙ (or_none (change_at cs b) ∙ (h b ∙ ap (λ (c : Bool). whole_of (c && test b) b) (sym (still_among (take i ns) a b apart))))

order_judged : (ns : List ℕ) (cs : List Change) (i a : ℕ) (w : Bool) → AreAscending ns → slice_get ns i ≡ Some a → StandInOrder cs → All (λ (c : Change). has_node (take i ns) c.line ≡ true) cs → StandInOrder (cs ++ whole_changes w a)
order_judged ns cs i a true r e o h =
    rising_push cs (record { line = a; value = Some a }) o (All-weaker (λ (c : Change). has_node (take i ns) c.line ≡ true) (λ (c : Change). c.line < a) (λ c q. rising_under ns i a c.line r e q) cs h)
order_judged ns cs i a false r e o h = subst StandInOrder (sym (append-nil cs)) o

lines_judged : (ns : List ℕ) (cs : List Change) (i a : ℕ) (w : Bool) → All (λ (c : Change). has_node (take i ns) c.line ≡ true) cs → All (λ (c : Change). has_node (take i ns ++ a ∷ []) c.line ≡ true) (cs ++ whole_changes w a)
lines_judged ns cs i a w h = go w
  where
    wider : All (λ (c : Change). has_node (take i ns ++ a ∷ []) c.line ≡ true) cs
    wider = All-weaker (λ (c : Change). has_node (take i ns) c.line ≡ true) (λ (c : Change). has_node (take i ns ++ a ∷ []) c.line ≡ true)
        (λ c q. list_any-append (λ m. m == c.line) (take i ns) (a ∷ []) ∙ or_left (has_node (take i ns) c.line) _ q) cs h

    go : (w : Bool) → All (λ (c : Change). has_node (take i ns ++ a ∷ []) c.line ≡ true) (cs ++ whole_changes w a)
    go true = All-push (λ (c : Change). has_node (take i ns ++ a ∷ []) c.line ≡ true) cs (record { line = a; value = Some a }) wider (declared_last (take i ns) a)
    go false = subst (All (λ (c : Change). has_node (take i ns ++ a ∷ []) c.line ≡ true)) (sym (append-nil cs)) wider

-- ---- the step

pub judged_more : (s : Judge) (n p a : ℕ) (x y : Option Stamps) → AreAscending (exchanged_by (node_at s n)) → slice_get (exchanged_by (node_at s n)) (judged_of x) ≡ Some a → JudgesRight s n p x
    → HasJudged a (makes_whole s n p (slice_get s.lines.now a)) x y → JudgesRight s n p y
judged_more s n p a x y r e h q =
    let more : take (judged_of y) (exchanged_by (node_at s n)) ≡ take (judged_of x) (exchanged_by (node_at s n)) ++ a ∷ [] =
    ap (λ (i : ℕ). take i (exchanged_by (node_at s n))) (q.judged ∙ add-one (judged_of x)) ∙ taken_number (exchanged_by (node_at s n)) (judged_of x) a e in
    record {
      judged = omega (arith, q.judged, number_within (exchanged_by (node_at s n)) (judged_of x) a e);
      wholes = λ b. ap (λ (cs : List Change). change_at cs b) q.wholes
          ∙ (wholes_judged (exchanged_by (node_at s n)) (wholes_of x) (judged_of x) a (λ (c : ℕ). makes_whole s n p (slice_get s.lines.now c)) r e h.wholes b
          ∙ ap (λ (ms : List ℕ). whole_of (has_node ms b && makes_whole s n p (slice_get s.lines.now b)) b) (sym more));
      order = subst StandInOrder (sym q.wholes) (order_judged (exchanged_by (node_at s n)) (wholes_of x) (judged_of x) a (makes_whole s n p (slice_get s.lines.now a)) r e h.order h.lines);
      lines = subst (λ (ms : List ℕ). All (λ (c : Change). has_node ms c.line ≡ true) (wholes_of y)) (sym more)
          (subst (All (λ (c : Change). has_node (take (judged_of x) (exchanged_by (node_at s n)) ++ a ∷ []) c.line ≡ true)) (sym q.wholes)
          (lines_judged (exchanged_by (node_at s n)) (wholes_of x) (judged_of x) a (makes_whole s n p (slice_get s.lines.now a)) h.lines));
    }

-- a further `exchanged` line stands behind those that were judged
pub judged_behind : (s : Judge) (n p a : ℕ) (x : Option Stamps) → AreAscending (exchanged_by (node_at s n)) → slice_get (exchanged_by (node_at s n)) (judged_of x) ≡ Some a → JudgesRight s n p x → AreUpTo a (wholes_of x)
judged_behind s n p a x r e h =
    All-weaker (λ (c : Change). has_node (take (judged_of x) (exchanged_by (node_at s n))) c.line ≡ true) (λ (c : Change). c.line ≤ a)
    (λ c q. let below : c.line < a = rising_under (exchanged_by (node_at s n)) (judged_of x) a c.line r e q in omega arith) (wholes_of x) h.lines

-- what was judged is right where only what is noted changed, and not for this copy
pub judged_same : (old new : Judge) (n p : ℕ) (x y : Option Stamps) → record new { stamps = old.stamps } ≡ old → judged_of y ≡ judged_of x → wholes_of y ≡ wholes_of x → JudgesRight old n p x → JudgesRight new n p y
judged_same old new n p x y rest j w h =
    let moved : JudgesRight (record new { stamps = old.stamps }) n p x = subst (λ (s : Judge). JudgesRight s n p x) (sym rest) h in
    record {
      judged = subst (λ (i : ℕ). i ≤ length (exchanged_by (node_at new n))) (sym j) moved.judged;
      wholes = λ a. ap (λ (cs : List Change). change_at cs a) w ∙ (moved.wholes a ∙ ap (λ (i : ℕ). whole_of (has_node (take i (exchanged_by (node_at new n))) a && makes_whole new n p (slice_get new.lines.now a)) a) (sym j));
      order = subst StandInOrder (sym w) moved.order;
      lines = subst (λ (i : ℕ). All (λ (c : Change). has_node (take i (exchanged_by (node_at new n))) c.line ≡ true) (wholes_of y)) (sym j)
          (subst (All (λ (c : Change). has_node (take (judged_of x) (exchanged_by (node_at new n))) c.line ≡ true)) (sym w) moved.lines);
    }

-- ---- several of them

pub opened_some : (n p : ℕ) (old new : Judge) → ChangesStamps SameStamps n p old new → JudgesRight old n p (stamps_at old n p) → JudgesSome n p (judged_of (stamps_at old n p)) old new
opened_some n p old new c h = record {
  rest = c.rest;
  marks = c.here.marks;
  right = judged_same old new n p (stamps_at old n p) (stamps_at new n p) c.rest c.here.judged c.here.wholes h;
  judged = c.here.judged;
  there = c.here.there;
  others = c.others;
}

pub line_some : (n p i a : ℕ) (old new : Judge) → AreAscending (exchanged_by (node_at old n)) → slice_get (exchanged_by (node_at old n)) i ≡ Some a → judged_of (stamps_at old n p) ≡ i → JudgesRight old n p (stamps_at old n p)
    → ChangesStamps (HasJudged a (makes_whole old n p (slice_get old.lines.now a))) n p old new → JudgesSome n p (i + 1) old new
line_some n p i a old new r e j h c = record {
  rest = c.rest;
  marks = c.here.marks;
  right = judged_same old new n p (stamps_at new n p) (stamps_at new n p) c.rest refl refl
      (judged_more old n p a (stamps_at old n p) (stamps_at new n p) r (subst (λ (x : ℕ). slice_get (exchanged_by (node_at old n)) x ≡ Some a) (sym j) e) h c.here);
  judged = c.here.judged ∙ ap (λ (x : ℕ). x + 1) j;
  there = c.here.there;
  others = c.others;
}
