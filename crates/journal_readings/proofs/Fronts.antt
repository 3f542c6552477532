-- What holds after each line of a short journal, and for each of a few nodes and keys.
use Rattle.std.proofs.Common.{◌≡◌, ℕ, zero, suc, ◌==◌, Bool, true, false, cond, ◌&&◌, ◌||◌, List, [], ◌∷◌, ◌++◌, Option, None, refl, sym, ap, subst, ◌∙◌, append_assoc, append-nil}
use Rattle.std.specs.Prelude.{fold, take, filter}
use Rattle.std.specs.List.{list_any, list_all}
use Rattle.std.proofs.lemmas.Bool.{eqb-true}
use Rattle.cluster_types.specs.declared.cluster_key.ClusterKey.{ClusterKey}
use Rattle.cluster_types.specs.ClusterKeys as keys
use Rattle.cluster_types.proofs.BoolFacts.{neither_left as or_left, neither_right as or_right, not_both as true_false}
use Rattle.journal_lines.specs.declared.line.Line.{Line}
use Rattle.journal_lines.specs.declared.line.Line.TheVariants as line
use Rattle.journal_readings.specs.Lines.{same_key, has_node}
use Rattle.journal_readings.specs.Views.{promised_key, promise_step, last_key, last_step, view, view_step, members}
pub use Rattle.cluster_types.proofs.BoolFacts.{and_left, and_right}

-- ---- fronts

-- it holds of the lines before and of each longer front
abbrev pub AllFronts : (List Line → Type 0) → List Line → List Line → Type 0
AllFronts P before [] = P before
AllFronts P before (l ∷ ls) = P before × AllFronts P (before ++ l ∷ []) ls

front_from : (P : List Line → Type 0) (before j : List Line) → AllFronts P before j → (i : ℕ) → P (before ++ take i j)
front_from P before [] h zero = subst P (sym (append-nil before)) h
front_from P before [] h (suc i) = subst P (sym (append-nil before)) h
front_from P before (l ∷ j) h zero = subst P (sym (append-nil before)) h.0
front_from P before (l ∷ j) h (suc i) = subst P (append_assoc before (l ∷ []) (take i j)) (front_from P (before ++ l ∷ []) j h.1 i)

-- what holds of each front of a journal holds of as many of its lines as one takes
pub each_front : (P : List Line → Type 0) (j : List Line) → AllFronts P [] j → (i : ℕ) → P (take i j)
each_front P j h i = front_from P [] j h i

-- the claim where the test holds, and otherwise nothing
abbrev pub Where : Bool → Type 0 → Type 0
Where true A = A
Where false A = Unit {0}

pub where_true : (b : Bool) (A : Type 0) → Where b A → b ≡ true → A
where_true true A h e = h
where_true false A h e = cc

-- ---- tests

or_both : (a b : Bool) → a ≡ false → b ≡ false → (a || b) ≡ false
or_both false b e f = f
or_both true b e f = e

-- ---- a few nodes and keys

abbrev pub AllOf : {A : Type 0} → (A → Type 0) → List A → Type 0
AllOf P [] = Unit {0}
AllOf P (x ∷ xs) = P x × AllOf P xs

-- what holds of each of the nodes holds of one of them
pub of_node : (P : ℕ → Type 0) (ns : List ℕ) → AllOf P ns → (n : ℕ) → has_node ns n ≡ true → P n
of_node P [] h n e = cc
of_node P (m ∷ ns) h n e = go (m == n) refl (of_node P ns h.1 n) e
  where
    go : (b : Bool) → (m == n) ≡ b → (has_node ns n ≡ true → P n) → (b || has_node ns n) ≡ true → P n
    go true i rest f = subst P (eqb-true m n i) h.0
    go false i rest f = rest f

-- of nodes that are all among these one is
pub among : (ns ms : List ℕ) → list_all (has_node ns) ms ≡ true → (n : ℕ) → has_node ms n ≡ true → has_node ns n ≡ true
among ns [] h n e = cc
among ns (m ∷ ms) h n e = go (m == n) refl (among ns ms (and_right (has_node ns m) _ h) n) e
  where
    go : (b : Bool) → (m == n) ≡ b → (has_node ms n ≡ true → has_node ns n ≡ true) → (b || has_node ms n) ≡ true → has_node ns n ≡ true
    go true i rest f = subst (λ (x : ℕ). has_node ns x ≡ true) (eqb-true m n i) (and_left (has_node ns m) _ h)
    go false i rest f = rest f

-- one of some of the nodes is one of them
pub of_some : (test : ℕ → Bool) (ns : List ℕ) (n : ℕ) → has_node (filter test ns) n ≡ true → has_node ns n ≡ true
of_some test [] n e = e
of_some test (m ∷ ns) n e = go (test m) (of_some test ns n) e
  where
    keep : (c : Bool) → (has_node (filter test ns) n ≡ true → has_node ns n ≡ true) → (c || has_node (filter test ns) n) ≡ true → (c || has_node ns n) ≡ true
    keep true rest f = refl
    keep false rest f = rest f

    later : (c : Bool) → has_node ns n ≡ true → (c || has_node ns n) ≡ true
    later true f = refl
    later false f = f

    go : (b : Bool) → (has_node (filter test ns) n ≡ true → has_node ns n ≡ true) → has_node (cond b (m ∷ filter test ns) (filter test ns)) n ≡ true → ((m == n) || has_node ns n) ≡ true
    go true rest f = keep (m == n) rest f
    go false rest f = later (m == n) (rest f)

-- whether the key is one of these
abbrev pub has_key : List ClusterKey → ClusterKey → Bool
has_key ks k = list_any (λ l. same_key l k) ks

pub same_key_is : (k l : ClusterKey) → same_key k l ≡ true → k ≡ l
same_key_is k l e i = record {
  round = eqb-true k.round l.round (and_left (k.round == l.round) _ e) i;
  principal = eqb-true k.principal l.principal (and_right (k.round == l.round) _ e) i;
}

-- what holds of each of the keys holds of one of them
pub of_key : (P : ClusterKey → Type 0) (ks : List ClusterKey) → AllOf P ks → (k : ClusterKey) → has_key ks k ≡ true → P k
of_key P [] h k e = cc
of_key P (l ∷ ks) h k e = go (same_key l k) refl (of_key P ks h.1 k) e
  where
    go : (b : Bool) → same_key l k ≡ b → (has_key ks k ≡ true → P k) → (b || has_key ks k) ≡ true → P k
    go true i rest f = subst P (same_key_is l k i) h.0
    go false i rest f = rest f

-- ---- nodes and keys that no line names

-- whether the line changes the node's keys or its view to another
abbrev pub moves : ℕ → Line → Bool
moves n (line.Promise m k) = m == n
moves n (line.Enter m k ms) = m == n
moves n _ = false

-- whether it changes those of one of these nodes, if any
abbrev pub moves_only : List ℕ → Line → Bool
moves_only ns (line.Promise m k) = has_node ns m
moves_only ns (line.Enter m k ms) = has_node ns m
moves_only ns _ = true

abbrev pub IsUnmoved : ℕ → List Line → Type 0
IsUnmoved n ls = list_any (moves n) ls ≡ false

apart : (ns : List ℕ) (m n : ℕ) → has_node ns m ≡ true → has_node ns n ≡ false → (m == n) ≡ false
apart ns m n e f = go (m == n) refl
  where
    go : (b : Bool) → (m == n) ≡ b → b ≡ false
    go true i = absurd (true_false (has_node ns n) (subst (λ (x : ℕ). has_node ns x ≡ true) (eqb-true m n i) e) f)
    go false i = refl

pub others_unmoved : (ns : List ℕ) (n : ℕ) → has_node ns n ≡ false → (ls : List Line) → list_all (moves_only ns) ls ≡ true → IsUnmoved n ls
others_unmoved ns n f [] all = refl
others_unmoved ns n f (l ∷ ls) all = or_both (moves n l) _ (here l (and_left (moves_only ns l) _ all)) (others_unmoved ns n f ls (and_right (moves_only ns l) _ all))
  where
    here : (x : Line) → moves_only ns x ≡ true → moves n x ≡ false
    here (line.Promise m k) h = apart ns m n h f
    here (line.Enter m k ms) h = apart ns m n h f
    here x h = refl

pub unmoved_front : (n i : ℕ) (ls : List Line) → IsUnmoved n ls → IsUnmoved n (take i ls)
unmoved_front n zero ls e = refl
unmoved_front n (suc i) [] e = refl
unmoved_front n (suc i) (l ∷ ls) e = or_both (moves n l) _ (or_left (moves n l) _ e) (unmoved_front n i ls (or_right (moves n l) _ e))

unless : {A : Type 0} (b : Bool) (x y : A) → b ≡ false → cond b x y ≡ y
unless true x y e = cc
unless false x y e = refl

-- a fold whose steps change nothing at a line that doesn't move the node
stays : {A : Type 0} (step : A → Line → A) (a : A) (n : ℕ) → ((l : Line) → moves n l ≡ false → step a l ≡ a) → (ls : List Line) → IsUnmoved n ls → fold step a ls ≡ a
stays step a n h [] e = refl
stays step a n h (l ∷ ls) e = ap (λ x. fold step x ls) (h l (or_left _ _ e)) ∙ stays step a n h ls (or_right (moves n l) _ e)

promise_step-stays : (n : ℕ) (k : ClusterKey) (l : Line) → moves n l ≡ false → promise_step n k l ≡ k
promise_step-stays n k (line.Promise m o) h = unless (m == n) o k h
promise_step-stays n k l h = refl

last_step-stays : (n : ℕ) (k : ClusterKey) (l : Line) → moves n l ≡ false → last_step n k l ≡ k
last_step-stays n k (line.Enter m o ms) h = unless (m == n) o k h
last_step-stays n k l h = refl

none_either : (b : Bool) (held : Option ClusterKey) → held ≡ None → cond b None held ≡ None
none_either true held e = refl
none_either false held e = e

view_step-stays : (n : ℕ) (l : Line) → moves n l ≡ false → view_step n None l ≡ None
view_step-stays n (line.Enter m o ms) h = unless (m == n) _ None h
view_step-stays n (line.Stop m) h = none_either (m == n) None refl
view_step-stays n l h = refl

pub promised_key-none : (n : ℕ) (ls : List Line) → IsUnmoved n ls → promised_key n ls ≡ keys.none
unfolding promised_key
promised_key-none n ls e = stays (promise_step n) keys.none n (promise_step-stays n keys.none) ls e

pub last_key-none : (n : ℕ) (ls : List Line) → IsUnmoved n ls → last_key n ls ≡ keys.none
unfolding last_key
last_key-none n ls e = stays (last_step n) keys.none n (last_step-stays n keys.none) ls e

pub view-none : (n : ℕ) (ls : List Line) → IsUnmoved n ls → view n ls ≡ None
unfolding view
view-none n ls e = stays (view_step n) None n (view_step-stays n) ls e

-- whether the line enters a view of one of these keys, if any
abbrev pub enters_only : List ClusterKey → Line → Bool
enters_only ks (line.Enter n k ms) = has_key ks k
enters_only ks _ = true

-- a view that nobody enters has no members
pub members-none : (ks : List ClusterKey) (k : ClusterKey) → has_key ks k ≡ false → (ls : List Line) → list_all (enters_only ks) ls ≡ true → members k ls ≡ []
members-none ks k f [] all = refl
members-none ks k f (line.Enter n l ms ∷ ls) all = unless (same_key l k) ms (members k ls) (other (same_key l k) refl) ∙ members-none ks k f ls (and_right (has_key ks l) _ all)
  where
    other : (b : Bool) → same_key l k ≡ b → b ≡ false
    other true i = absurd (true_false (has_key ks k) (subst (λ (x : ClusterKey). has_key ks x ≡ true) (same_key_is l k i) (and_left (has_key ks l) _ all)) f)
    other false i = refl
members-none ks k f (l ∷ ls) all = members-none ks k f ls (and_right (enters_only ks l) _ all)

pub entered_front : (ks : List ClusterKey) (i : ℕ) (ls : List Line) → list_all (enters_only ks) ls ≡ true → list_all (enters_only ks) (take i ls) ≡ true
entered_front ks zero ls e = refl
entered_front ks (suc i) [] e = refl
entered_front ks (suc i) (l ∷ ls) e = both (enters_only ks l) _ (and_left (enters_only ks l) _ e) (entered_front ks i ls (and_right (enters_only ks l) _ e))
  where
    both : (a b : Bool) → a ≡ true → b ≡ true → (a && b) ≡ true
    both true b x y = y
    both false b x y = x
