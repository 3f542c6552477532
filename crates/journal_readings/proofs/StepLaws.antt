-- What one line more makes of each reading.
use Rattle.std.proofs.Common.{Option, ◌≡◌, ℕ, List, [], ◌∷◌, ◌++◌, None, sym, ap, ◌∙◌, append_assoc, append-nil, ◌||◌, Bool, true, false, cond, Some, option_map, refl}
use Rattle.std.specs.Prelude.{fold, option_and_then}
use Rattle.std.specs.List.{list_any}
use Rattle.journal_readings.specs.Rows.{row, copy_state}
use Rattle.std.proofs.lemmas.List.Sums.{fold-append}
use Rattle.conflict_order.specs.declared.policy.Policy.{Policy}
use Rattle.cluster_types.specs.declared.cluster_key.ClusterKey.{ClusterKey}
use Rattle.journal_lines.specs.declared.line.Line.{Line}
use Rattle.journal_readings.specs.Lines.{is_enter, lines_before, fold_along}
use Rattle.journal_readings.specs.Settings.{is_node_up, up_step, clock_of, clock_step, present_role, role_step}
use Rattle.journal_readings.specs.Contents.{content, content_step, holds_any, copy_step, applied, applied_step}
use Rattle.journal_readings.specs.Views.{promised_key, promise_step, last_key, last_step, view, view_step}
use Rattle.journal_readings.specs.Entries.{entry, applied_in, applied_in_step}
use Rattle.journal_readings.specs.Stamps.{stamp, stamp_step}
use Rattle.journal_readings.specs.Counts.{heard_numbers, heard_step}
use Rattle.journal_readings.specs.Pending.{is_acked, acks, is_handed_on, acks_record}

-- ---- the two kinds of folds

pub fold-more : {A B : Type 0} (f : B → A → B) (a : B) (xs : List A) (x : A) → fold f a (xs ++ x ∷ []) ≡ f (fold f a xs) x
fold-more f a xs x = fold-append f a xs (x ∷ [])

fold_along-from : {A : Type 0} (step : List Line → A → Line → A) (before : List Line) (a : A) (ls : List Line) (l : Line)
    → fold_along step before a (ls ++ l ∷ []) ≡ step (before ++ ls) (fold_along step before a ls) l
fold_along-from step before a [] l = ap (λ b. step b a l) (sym (append-nil before))
fold_along-from step before a (x ∷ ls) l =
    fold_along-from step (before ++ x ∷ []) (step before a x) ls l
    ∙ ap (λ b. step b (fold_along step (before ++ x ∷ []) (step before a x) ls) l) (append_assoc before (x ∷ []) ls)

pub fold_along-more : {A : Type 0} (step : List Line → A → Line → A) (a : A) (ls : List Line) (l : Line)
    → fold_along step [] a (ls ++ l ∷ []) ≡ step ls (fold_along step [] a ls) l
fold_along-more step a ls l = fold_along-from step [] a ls l

-- ---- the lines before a line

-- a function goes into the cases
through : {A B : Type 0} (f : Option A → B) (a b : Bool) (o x : Option A) → f (cond a o (cond b x None)) ≡ cond a (f o) (cond b (f x) (f None))
through f true b o x = refl
through f false true o x = refl
through f false false o x = refl

pub lines_before-more : (test : Line → Bool) (ls : List Line) (l : Line)
    → lines_before test (ls ++ l ∷ []) ≡ cond (list_any test ls) (lines_before test ls) (cond (test l) (Some ls) None)
lines_before-more test [] l = refl
lines_before-more test (x ∷ ls) l = go (test x) (lines_before-more test ls l)
  where
    behind : Option (List Line) → Option (List Line)
    behind o = option_map (λ before. x ∷ before) o

    go : (b : Bool)
        → lines_before test (ls ++ l ∷ []) ≡ cond (list_any test ls) (lines_before test ls) (cond (test l) (Some ls) None)
        → cond b (Some []) (behind (lines_before test (ls ++ l ∷ []))) ≡ cond (b || list_any test ls) (cond b (Some []) (behind (lines_before test ls))) (cond (test l) (Some (x ∷ ls)) None)
    go true e = refl
    go false e = ap behind e ∙ through behind (list_any test ls) (test l) (lines_before test ls) (Some ls)

-- ---- the readings

pub content-more : (by : Policy) (n : ℕ) (d : List ℕ) (ls : List Line) (l : Line) → content by n d (ls ++ l ∷ []) ≡ content_step by n d (content by n d ls) l
unfolding content
content-more by n d ls l = fold-more (content_step by n d) None ls l

pub applied-more : (by : Policy) (d : List ℕ) (ls : List Line) (l : Line) → applied by d (ls ++ l ∷ []) ≡ applied_step by d (applied by d ls) l
unfolding applied
applied-more by d ls l = fold-more (applied_step by d) None ls l

pub applied_in-more : (by : Policy) (k : ClusterKey) (d : List ℕ) (ls : List Line) (l : Line) → applied_in by k d (ls ++ l ∷ []) ≡ applied_in_step by k d (applied_in by k d ls) l
unfolding applied_in
applied_in-more by k d ls l = fold-more (applied_in_step by k d) None ls l

pub holds_any-more : (n p : ℕ) (ls : List Line) (l : Line) → holds_any n p (ls ++ l ∷ []) ≡ copy_step n p (holds_any n p ls) l
unfolding holds_any
holds_any-more n p ls l = fold-more (copy_step n p) _ ls l

pub view-more : (n : ℕ) (ls : List Line) (l : Line) → view n (ls ++ l ∷ []) ≡ view_step n (view n ls) l
unfolding view
view-more n ls l = fold-more (view_step n) None ls l

pub last_key-more : (n : ℕ) (ls : List Line) (l : Line) → last_key n (ls ++ l ∷ []) ≡ last_step n (last_key n ls) l
unfolding last_key
last_key-more n ls l = fold-more (last_step n) _ ls l

pub promised_key-more : (n : ℕ) (ls : List Line) (l : Line) → promised_key n (ls ++ l ∷ []) ≡ promise_step n (promised_key n ls) l
unfolding promised_key
promised_key-more n ls l = fold-more (promise_step n) _ ls l

pub is_up-more : (n : ℕ) (ls : List Line) (l : Line) → is_node_up n (ls ++ l ∷ []) ≡ up_step n (is_node_up n ls) l
unfolding is_node_up
is_up-more n ls l = fold-more (up_step n) _ ls l

pub clock_of-more : (n : ℕ) (ls : List Line) (l : Line) → clock_of n (ls ++ l ∷ []) ≡ clock_step n (clock_of n ls) l
unfolding clock_of
clock_of-more n ls l = fold-more (clock_step n) 0 ls l

pub present_role-more : (n : ℕ) (ls : List Line) (l : Line) → present_role n (ls ++ l ∷ []) ≡ role_step n (present_role n ls) l
unfolding present_role
present_role-more n ls l = fold-more (role_step n) _ ls l

pub stamp-more : (factor n p : ℕ) (ls : List Line) (l : Line) → stamp factor n p (ls ++ l ∷ []) ≡ stamp_step factor n p ls (stamp factor n p ls) l
unfolding stamp
stamp-more factor n p ls l = fold_along-more (stamp_step factor n p) None ls l

pub heard_numbers-more : (k : ClusterKey) (n p master : ℕ) (ls : List Line) (l : Line)
    → heard_numbers k n p master (ls ++ l ∷ []) ≡ heard_step k n p master ls (heard_numbers k n p master ls) l
heard_numbers-more k n p master ls l = fold_along-more (heard_step k n p master) [] ls l

pub is_acked-more : (k : ClusterKey) (n r number : ℕ) (ls : List Line) (l : Line)
    → is_acked k n r number (ls ++ l ∷ []) ≡ (is_acked k n r number ls || acks k n r number ls l)
unfolding is_acked
is_acked-more k n r number ls l = fold_along-more (λ before acked x. acked || acks k n r number before x) _ ls l

pub entry-more : (by : Policy) (k : ClusterKey) (n : ℕ) (d : List ℕ) (ls : List Line) (l : Line)
    → entry by k n d (ls ++ l ∷ []) ≡ cond (list_any (is_enter k n) ls) (entry by k n d ls) (cond (is_enter k n l) (content by n d ls) None)
unfolding entry
entry-more by k n d ls l =
    ap (option_and_then (λ before. content by n d before)) (lines_before-more (is_enter k n) ls l)
    ∙ through (option_and_then (λ before. content by n d before)) (list_any (is_enter k n) ls) (is_enter k n l) (lines_before (is_enter k n) ls) (Some ls)

pub row-more : (factor : ℕ) (k : ClusterKey) (n p : ℕ) (ls : List Line) (l : Line)
    → row factor k n p (ls ++ l ∷ []) ≡ cond (list_any (is_enter k n) ls) (row factor k n p ls) (cond (is_enter k n l) (Some (copy_state factor n p ls)) None)
unfolding row
row-more factor k n p ls l =
    ap (option_map (λ before. copy_state factor n p before)) (lines_before-more (is_enter k n) ls l)
    ∙ through (option_map (λ before. copy_state factor n p before)) (list_any (is_enter k n) ls) (is_enter k n l) (lines_before (is_enter k n) ls) (Some ls)

pub is_handed_on-more : (k : ClusterKey) (n r : ℕ) (d : List ℕ) (ls : List Line) (l : Line)
    → is_handed_on k n r d (ls ++ l ∷ []) ≡ (is_handed_on k n r d ls || acks_record k n r d ls l)
unfolding is_handed_on
is_handed_on-more k n r d ls l = fold_along-more (λ before handed x. handed || acks_record k n r d before x) _ ls l
