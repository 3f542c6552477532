-- What is noted of stamps behind a write of one copy's.
use Rattle.std.proofs.Common.{◌≡◌, ℕ, ◌+◌, Bool, List, [], ◌∷◌, ◌++◌, Option, Some, None, sym, ap, subst, ◌∙◌}
use Rattle.std.specs.Prelude.{is_some}
use Rattle.std.specs.HashMap as hash
use Rattle.audit_state.specs.declared.history.Change.{Change}
use Rattle.audit_core.specs.declared.judge.Judge.{Judge}
use Rattle.audit_state.specs.declared.stamps.Stamps.{Stamps}
use Rattle.audit_state.specs.Histories.{AreUpTo}
use Rattle.audit_state.specs.Keys.{pair_eq}
use Rattle.audit_core.specs.Known.{stamps_at}
use Rattle.audit_state.specs.Stamps.{IsFreshStamps, stamp_marks, judged_of, wholes_of, whole_changes}
use Rattle.audit_core.specs.Steps.{ChangesStamps, SameStamps, HasMark, HasJudged}

pub stamps_opened : (n p : ℕ) (old new : Judge) (x : Stamps) → record new { stamps = old.stamps } ≡ old → stamps_at old n p ≡ None → IsFreshStamps x
    → hash.Updates pair_eq old.stamps new.stamps (n, p) (Some x) → ChangesStamps SameStamps n p old new
stamps_opened n p old new x rest none fresh u = record {
  rest = rest;
  here = record {
    marks = ap stamp_marks u.1 ∙ (fresh.marks ∙ sym (ap stamp_marks none));
    judged = ap judged_of u.1 ∙ (fresh.judged ∙ sym (ap judged_of none));
    wholes = ap wholes_of u.1 ∙ (fresh.wholes ∙ sym (ap wholes_of none));
    there = ap is_some u.1;
  };
  others = λ m q e. u.2 (m, q) e;
}

-- the marks that were noted before are those of what is there
pub marks_there : (n p place : ℕ) (old now : Judge) (x : Stamps) → ChangesStamps SameStamps n p old now → stamps_at now n p ≡ Some x → AreUpTo place (stamp_marks (stamps_at old n p)) → AreUpTo place x.marks
marks_there n p place old now x c e h = subst (AreUpTo place) (sym c.here.marks
    ∙ ap stamp_marks e) h

pub stamps_marked : (n p place : ℕ) (v : Option ℕ) (old now new : Judge) (x y : Stamps) → ChangesStamps SameStamps n p old now → record new { stamps = now.stamps } ≡ now → stamps_at now n p ≡ Some x
    → hash.Updates pair_eq now.stamps new.stamps (n, p) (Some y) → y.marks ≡ x.marks ++ record { line = place; value = v } ∷ [] → y.judged ≡ x.judged → y.wholes ≡ x.wholes
    → ChangesStamps (HasMark place v) n p old new
stamps_marked n p place v old now new x y c rest e u marks judged wholes = record {
  rest = ap (λ (s : Judge). record s { stamps = old.stamps }) rest ∙ c.rest;
  here = record {
    marks = ap stamp_marks u.1 ∙ (marks ∙ ap (λ (cs : List Change). cs ++ record { line = place; value = v } ∷ []) (sym (ap stamp_marks e) ∙ c.here.marks));
    judged = ap judged_of u.1 ∙ (judged ∙ (sym (ap judged_of e) ∙ c.here.judged));
    wholes = ap wholes_of u.1 ∙ (wholes ∙ (sym (ap wholes_of e) ∙ c.here.wholes));
  };
  others = λ m q f. u.2 (m, q) f ∙ c.others m q f;
}

pub stamps_judged : (n p place : ℕ) (whole : Bool) (old new : Judge) (x y : Stamps) → record new { stamps = old.stamps } ≡ old → stamps_at old n p ≡ Some x
    → hash.Updates pair_eq old.stamps new.stamps (n, p) (Some y) → y.marks ≡ x.marks → y.judged ≡ x.judged + 1 → y.wholes ≡ x.wholes ++ whole_changes whole place
    → ChangesStamps (HasJudged place whole) n p old new
stamps_judged n p place whole old new x y rest e u marks judged wholes = record {
  rest = rest;
  here = record {
    marks = ap stamp_marks u.1 ∙ (marks ∙ sym (ap stamp_marks e));
    judged = ap judged_of u.1 ∙ (judged ∙ ap (λ (i : ℕ). i + 1) (sym (ap judged_of e)));
    wholes = ap wholes_of u.1 ∙ (wholes ∙ ap (λ (cs : List Change). cs ++ whole_changes whole place) (sym (ap wholes_of e)));
    there = ap is_some u.1;
  };
  others = λ m q f. u.2 (m, q) f;
}

-- ... as it was found to be
pub stamps_judged_so : (n p place : ℕ) (whole found : Bool) (old new : Judge) (x y : Stamps) → found ≡ whole → record new { stamps = old.stamps } ≡ old → stamps_at old n p ≡ Some x
    → hash.Updates pair_eq old.stamps new.stamps (n, p) (Some y) → y.marks ≡ x.marks → y.judged ≡ x.judged + 1 → y.wholes ≡ x.wholes ++ whole_changes found place
    → ChangesStamps (HasJudged place whole) n p old new
stamps_judged_so n p place whole found old new x y same rest e u marks judged wholes =
    stamps_judged n p place whole old new x y rest e u marks judged (wholes ∙ ap (λ (w : Bool). x.wholes ++ whole_changes w place) same)
