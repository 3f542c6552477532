-- A record that no line writes is held nowhere, and is in no view.
use Rattle.std.proofs.Common.{◌≡◌, ℕ, zero, suc, ◌==◌, Bool, true, false, ◌&&◌, ◌||◌, cond, List, [], ◌∷◌, Option, Some, None, option_map, ◌⊎◌, inl, inr, refl, ap, subst, ◌∙◌}
use Rattle.std.specs.Prelude.{fold, map, take, option_and_then, bytes_eq}
use Rattle.std.specs.List.{list_any, list_all}
use Rattle.conflict_order.specs.declared.policy.Policy.{Policy}
use Rattle.conflict_order.specs.declared.version.Version.{Version}
use Rattle.conflict_order.specs.Join.{join}
use Rattle.cluster_types.specs.declared.cluster_key.ClusterKey.{ClusterKey}
use Rattle.cluster_types.specs.declared.member.Member.{Member}
use Rattle.cluster_types.specs.Partitions.{partition_of}
use Rattle.cluster_types.proofs.BoolFacts.{neither_left as or_left, neither_right as or_right, and_left, and_right}
use Rattle.journal_lines.specs.declared.line.Line.{Line}
use Rattle.journal_lines.specs.declared.line.Line.TheVariants as line
use Rattle.journal_readings.specs.Lines.{same_key, lines_before, is_enter}
use Rattle.journal_readings.specs.Contents.{content, content_step, applied, applied_step, join_all, joined_if}
use Rattle.journal_readings.specs.Entries.{entry, applied_in, applied_in_step, fold_of}
use Rattle.journal_readings.specs.Views.{members}
use Rattle.journal_readings.proofs.CopyLaws.{same_digest_is}
use Rattle.journal_readings.proofs.AlongLaws.{no_some, some_same}

-- whether the line brings a version of the record
abbrev pub writes : List ℕ → Line → Bool
writes d (line.Apply m k t e v) = bytes_eq e d
writes d (line.Merge m k e v) = bytes_eq e d
writes d _ = false

-- whether the line brings a version of no other record
abbrev pub writes_only : List ℕ → Line → Bool
writes_only d (line.Apply m k t e v) = bytes_eq e d
writes_only d (line.Merge m k e v) = bytes_eq e d
writes_only d _ = true

-- no line brings a version of the record
abbrev pub IsUnwritten : List ℕ → List Line → Type 0
IsUnwritten d ls = list_any (writes d) ls ≡ false

-- ---- tests

or_both : (a b : Bool) → a ≡ false → b ≡ false → (a || b) ≡ false
or_both false b e f = f
or_both true b e f = e

never : (a b : Bool) → b ≡ false → (a && b) ≡ false
never true b e = e
never false b e = refl

pub unwritten_front : (d : List ℕ) (i : ℕ) (ls : List Line) → IsUnwritten d ls → IsUnwritten d (take i ls)
unwritten_front d zero ls e = refl
unwritten_front d (suc i) [] e = refl
unwritten_front d (suc i) (l ∷ ls) e = or_both (writes d l) _ (or_left (writes d l) _ e) (unwritten_front d i ls (or_right (writes d l) _ e))

-- ---- what such a record's readings are

joined_never : (b : Bool) (by : Policy) (held : Option Version) (v : Version) → b ≡ false → joined_if b by held v ≡ held
joined_never false by held v e = refl
joined_never true by held v e = cc

none_either : (b : Bool) (held : Option Version) → held ≡ None → cond b None held ≡ None
none_either true held e = refl
none_either false held e = e

content_step-none : (by : Policy) (n : ℕ) (d : List ℕ) (l : Line) → writes d l ≡ false → content_step by n d None l ≡ None
content_step-none by n d (line.Apply m k t e v) h = joined_never _ by None v (never (m == n) _ h)
content_step-none by n d (line.Merge m k e v) h = joined_never _ by None v (never (m == n) _ h)
content_step-none by n d (line.Drop m k p) h = none_either ((m == n) && (p == partition_of d)) None refl
content_step-none by n d l h = refl

applied_step-none : (by : Policy) (d : List ℕ) (l : Line) → writes d l ≡ false → applied_step by d None l ≡ None
applied_step-none by d (line.Apply m k t e v) h = joined_never _ by None v h
applied_step-none by d l h = refl

applied_in_step-none : (by : Policy) (k : ClusterKey) (d : List ℕ) (l : Line) → writes d l ≡ false → applied_in_step by k d None l ≡ None
applied_in_step-none by k d (line.Apply m o t e v) h = joined_never _ by None v (never (same_key o k) _ h)
applied_in_step-none by k d l h = refl

-- a fold of steps that each leave nothing
stays_none : (step : Option Version → Line → Option Version) (d : List ℕ) → ((l : Line) → writes d l ≡ false → step None l ≡ None)
    → (ls : List Line) → IsUnwritten d ls → fold step None ls ≡ None
stays_none step d h [] e = refl
stays_none step d h (l ∷ ls) e = ap (λ (held : Option Version). fold step held ls) (h l (or_left _ _ e)) ∙ stays_none step d h ls (or_right (writes d l) _ e)

pub content-none : (by : Policy) (n : ℕ) (d : List ℕ) (ls : List Line) → IsUnwritten d ls → content by n d ls ≡ None
unfolding content
content-none by n d ls e = stays_none (content_step by n d) d (content_step-none by n d) ls e

pub applied-none : (by : Policy) (d : List ℕ) (ls : List Line) → IsUnwritten d ls → applied by d ls ≡ None
unfolding applied
applied-none by d ls e = stays_none (applied_step by d) d (applied_step-none by d) ls e

pub applied_in-none : (by : Policy) (k : ClusterKey) (d : List ℕ) (ls : List Line) → IsUnwritten d ls → applied_in by k d ls ≡ None
unfolding applied_in
applied_in-none by k d ls e = stays_none (applied_in_step by k d) d (applied_in_step-none by k d) ls e

-- the lines before a line bring no version either
before-unwritten : (d : List ℕ) (test : Line → Bool) (ls : List Line) → IsUnwritten d ls → (before : List Line) → lines_before test ls ≡ Some before → IsUnwritten d before
before-unwritten d test [] e before f = absurd (no_some f)
before-unwritten d test (l ∷ ls) e before f = go (test l) (lines_before test ls) (before-unwritten d test ls (or_right (writes d l) _ e)) f
  where
    go : (b : Bool) (o : Option (List Line)) → ((x : List Line) → o ≡ Some x → IsUnwritten d x) → cond b (Some []) (option_map (λ x. l ∷ x) o) ≡ Some before → IsUnwritten d before
    go true o h g = subst (IsUnwritten d) (some_same g) refl
    go false None h g = absurd (no_some g)
    go false (Some x) h g = subst (IsUnwritten d) (some_same g) (or_both (writes d l) _ (or_left _ _ e) (h x refl))

pub entry-none : (by : Policy) (k : ClusterKey) (n : ℕ) (d : List ℕ) (ls : List Line) → IsUnwritten d ls → entry by k n d ls ≡ None
unfolding entry
entry-none by k n d ls e = go (lines_before (is_enter k n) ls) (before-unwritten d (is_enter k n) ls e)
  where
    go : (o : Option (List Line)) → ((x : List Line) → o ≡ Some x → IsUnwritten d x) → option_and_then (λ before. content by n d before) o ≡ None
    go None h = refl
    go (Some x) h = content-none by n d x (h x refl)

join-none : (by : Policy) → join by None None ≡ None
unfolding join
join-none by = refl

pub join_all-none : {A : Type 0} (by : Policy) (f : A → Option Version) (xs : List A) → ((x : A) → f x ≡ None) → join_all by (map f xs) ≡ None
join_all-none by f [] h = refl
join_all-none by f (x ∷ xs) h = ap (λ (v : Option Version). join by v (join_all by (map f xs))) (h x) ∙ ap (λ (v : Option Version). join by None v) (join_all-none by f xs h) ∙ join-none by

pub fold_of-none : (by : Policy) (k : ClusterKey) (d : List ℕ) (ls : List Line) → IsUnwritten d ls → fold_of by k d ls ≡ None
unfolding fold_of
fold_of-none by k d ls e =
    ap (λ (v : Option Version). join by v (applied_in by k d ls)) (join_all-none by (λ (m : Member). entry by k m.id d ls) (members k ls) (λ m. entry-none by k m.id d ls e))
    ∙ ap (λ (v : Option Version). join by None v) (applied_in-none by k d ls e)
    ∙ join-none by

-- ---- a journal that writes one record alone

others-unwritten : (e d : List ℕ) (ls : List Line) → list_all (writes_only e) ls ≡ true → bytes_eq e d ≡ false → IsUnwritten d ls
others-unwritten e d [] all differ = refl
others-unwritten e d (l ∷ ls) all differ = or_both (writes d l) _ (here l (and_left (writes_only e l) _ all)) (others-unwritten e d ls (and_right (writes_only e l) _ all) differ)
  where
    here : (x : Line) → writes_only e x ≡ true → writes d x ≡ false
    here (line.Apply m k t f v) h = ap (λ (g : List ℕ). bytes_eq g d) (same_digest_is f e h) ∙ differ
    here (line.Merge m k f v) h = ap (λ (g : List ℕ). bytes_eq g d) (same_digest_is f e h) ∙ differ
    here x h = refl

pub written_or_not : (e : List ℕ) (ls : List Line) → list_all (writes_only e) ls ≡ true → (d : List ℕ) → (e ≡ d) ⊎ IsUnwritten d ls
written_or_not e ls all d = go (bytes_eq e d) refl
  where
    go : (b : Bool) → bytes_eq e d ≡ b → (e ≡ d) ⊎ IsUnwritten d ls
    go true i = inl (same_digest_is e d i)
    go false i = inr (others-unwritten e d ls all i)

-- ---- a journal that writes two records alone

abbrev pub writes_either : List ℕ → List ℕ → Line → Bool
writes_either e f (line.Apply m k t g v) = bytes_eq g e || bytes_eq g f
writes_either e f (line.Merge m k g v) = bytes_eq g e || bytes_eq g f
writes_either e f _ = true

-- a record beside the two is unwritten
pub unwritten_beside : (e f d : List ℕ) → bytes_eq e d ≡ false → bytes_eq f d ≡ false → (ls : List Line) → list_all (writes_either e f) ls ≡ true → IsUnwritten d ls
unwritten_beside e f d i j [] all = refl
unwritten_beside e f d i j (l ∷ ls) all = or_both (writes d l) _ (here l (and_left (writes_either e f l) _ all)) (unwritten_beside e f d i j ls (and_right (writes_either e f l) _ all))
  where
    other : (g : List ℕ) (b : Bool) → bytes_eq g e ≡ b → (b || bytes_eq g f) ≡ true → bytes_eq g d ≡ false
    other g true x h = ap (λ (y : List ℕ). bytes_eq y d) (same_digest_is g e x) ∙ i
    other g false x h = ap (λ (y : List ℕ). bytes_eq y d) (same_digest_is g f h) ∙ j

    here : (x : Line) → writes_either e f x ≡ true → writes d x ≡ false
    here (line.Apply m k t g v) h = other g (bytes_eq g e) refl h
    here (line.Merge m k g v) h = other g (bytes_eq g e) refl h
    here x h = refl
