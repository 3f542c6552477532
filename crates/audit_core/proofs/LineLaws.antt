-- What one line more makes of what is read by places.
use Rattle.std.proofs.Common.{◌≡◌, ℕ, zero, suc, ◌==◌, ◌<◌, ◌+◌, Bool, true, false, ◌||◌, cond, List, [], ◌∷◌, ◌++◌, length, Some, None, refl, ap, ◌∙◌, zero-add, arith}
use Rattle.std.specs.Prelude.{take, slice_get}
use Rattle.std.specs.List.{list_any}
use Rattle.std.proofs.lemmas.List.{take-append-le}
use Rattle.std.proofs.lemmas.Bool.Decides.{nat_tests}
use Rattle.cluster_types.specs.declared.cluster_key.ClusterKey.{ClusterKey}
use Rattle.journal_lines.specs.declared.line.Line.{Line}
use Rattle.journal_lines.specs.declared.line.Line.TheVariants as line
use Rattle.journal_readings.specs.Lines.{same_key, has_node}
use Rattle.journal_readings.specs.Views.{members}
use Rattle.audit_laws.specs.Fits.{enters_key}
use Rattle.audit_laws.proofs.Tests.{differ, number_same}
use Rattle.audit_core.specs.Stamped.{finishes_exchange, exchanged_places_from, exchanged_places}

-- ---- lines by their places

pub slice_here : (j : List Line) (l : Line) → slice_get (j ++ l ∷ []) (length j) ≡ Some l
slice_here [] l = refl
slice_here (x ∷ j) l = slice_here j l

pub slice_end : (j : List Line) → slice_get j (length j) ≡ None
slice_end [] = refl
slice_end (x ∷ j) = slice_end j

pub slice_other : (j : List Line) (l : Line) (a : ℕ) → (a ≡ length j → ⊥) → slice_get (j ++ l ∷ []) a ≡ slice_get j a
slice_other [] l zero apart = absurd (apart refl)
slice_other [] l (suc a) apart = refl
slice_other (x ∷ j) l zero apart = refl
slice_other (x ∷ j) l (suc a) apart = slice_other j l a (λ e. apart (ap suc e))

pub front_same : (j : List Line) (l : Line) (a : ℕ) → a < length j → take a (j ++ l ∷ []) ≡ take a j
front_same j l a h = take-append-le a j (l ∷ []) (omega (arith, h))

pub not_same : (a b : ℕ) → (a ≡ b → ⊥) → (b == a) ≡ false
not_same a b apart = grind (arith, nat_tests)

-- ---- members

pub members_more : (k : ClusterKey) (j : List Line) (l : Line) → members k (j ++ l ∷ []) ≡ cond (list_any (enters_key k) j) (members k j) (members k (l ∷ []))
members_more k [] l = refl
members_more k (line.Enter n x ms ∷ j) l = go (same_key x k) (members_more k j l)
  where
    go : (b : Bool) → members k (j ++ l ∷ []) ≡ cond (list_any (enters_key k) j) (members k j) (members k (l ∷ []))
        → cond b ms (members k (j ++ l ∷ [])) ≡ cond (b || list_any (enters_key k) j) (cond b ms (members k j)) (members k (l ∷ []))
    go true e = refl
    go false e = e
members_more k (x ∷ j) l = members_more k j l

-- ---- the places of a node's `exchanged` lines

-- that of this line, if it is one
abbrev pub finished_now : ℕ → ℕ → Line → List ℕ
finished_now n place l = exchanged_places_from n place (l ∷ [])

finished_on : (n place : ℕ) (j : List Line) (l : Line) → exchanged_places_from n place (j ++ l ∷ []) ≡ exchanged_places_from n place j ++ finished_now n (place + length j) l
finished_on n place [] l = ap (λ (q : ℕ). finished_now n q l) (let e : place ≡ place + 0 = omega arith in e)
finished_on n place (x ∷ j) l = go (finishes_exchange n x)
    (finished_on n (place + 1) j l ∙ ap (λ (q : ℕ). exchanged_places_from n (place + 1) j ++ finished_now n q l) (let e : (place + 1) + length j ≡ place + length (x ∷ j) = omega arith in e))
  where
    go : (b : Bool) → exchanged_places_from n (place + 1) (j ++ l ∷ []) ≡ exchanged_places_from n (place + 1) j ++ finished_now n (place + length (x ∷ j)) l
        → cond b (place ∷ exchanged_places_from n (place + 1) (j ++ l ∷ [])) (exchanged_places_from n (place + 1) (j ++ l ∷ [])) ≡ cond b (place ∷ exchanged_places_from n (place + 1) j) (exchanged_places_from n (place + 1) j) ++ finished_now n (place + length (x ∷ j)) l
    go true e = ap (λ (ps : List ℕ). place ∷ ps) e
    go false e = e

pub finished_more : (n : ℕ) (j : List Line) (l : Line) → exchanged_places n (j ++ l ∷ []) ≡ exchanged_places n j ++ finished_now n (length j) l
finished_more n j l = finished_on n 0 j l ∙ ap (λ (q : ℕ). exchanged_places n j ++ finished_now n q l) (zero-add (length j))

pub finished_under : (n place : ℕ) (j : List Line) (a : ℕ) → has_node (exchanged_places_from n place j) a ≡ true → a < place + length j
finished_under n place [] a e = differ e refl
finished_under n place (x ∷ j) a e = go (finishes_exchange n x) (finished_under n (place + 1) j a) e
  where
    here : (c : Bool) → (place == a) ≡ c → (has_node (exchanged_places_from n (place + 1) j) a ≡ true → a < (place + 1) + length j) → (c || has_node (exchanged_places_from n (place + 1) j) a) ≡ true → a < place + length (x ∷ j)
    here true i rest q = let same : place ≡ a = number_same place a i in omega arith
    here false i rest q = let below : a < (place + 1) + length j = rest q in omega arith

    go : (b : Bool) → (has_node (exchanged_places_from n (place + 1) j) a ≡ true → a < (place + 1) + length j) → has_node (cond b (place ∷ exchanged_places_from n (place + 1) j) (exchanged_places_from n (place + 1) j)) a ≡ true → a < place + length (x ∷ j)
    go true rest q = here (place == a) refl rest q
    go false rest q = let below : a < (place + 1) + length j = rest q in omega arith

pub finished_below : (n : ℕ) (j : List Line) (a : ℕ) → has_node (exchanged_places n j) a ≡ true → a < length j
finished_below n j a e = let below : a < 0 + length j = finished_under n 0 j a e in omega arith

pub among_first : (i : ℕ) (ns : List ℕ) (a : ℕ) → has_node (take i ns) a ≡ true → has_node ns a ≡ true
among_first i [] a e = differ e (none i)
  where
    none : (i : ℕ) → has_node (take i []) a ≡ false
    none zero = refl
    none (suc i) = refl
among_first zero (n ∷ ns) a e = differ e refl
among_first (suc i) (n ∷ ns) a e = go (n == a) (among_first i ns a) e
  where
    go : (b : Bool) → (has_node (take i ns) a ≡ true → has_node ns a ≡ true) → (b || has_node (take i ns) a) ≡ true → (b || has_node ns a) ≡ true
    go true rest q = refl
    go false rest q = rest q
