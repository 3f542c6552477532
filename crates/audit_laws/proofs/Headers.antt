-- What a journal says of the run as a whole stands in its header: no line behind it changes that, and before it nothing
-- is held.
use Rattle.std.proofs.Common.{◌≡◌, ℕ, zero, suc, Bool, true, false, not, ◌&&◌, ◌||◌, List, [], ◌∷◌, ◌++◌, ◌⊎◌, inl, inr, refl, ap, ◌∙◌, append-nil}
use Rattle.std.specs.Prelude.{filter_map, take}
use Rattle.std.specs.List.{list_any, list_all}
use Rattle.std.proofs.lemmas.List.Elements.{filter_map-append}
use Rattle.std.proofs.lemmas.Bool.{and_from, not-true, or_cases}
use Rattle.conflict_order.specs.declared.policy.Policy.{Policy}
use Rattle.cluster_types.specs.declared.cluster_key.ClusterKey.{ClusterKey}
use Rattle.journal_lines.specs.declared.line.Line.{Line}
use Rattle.journal_lines.specs.declared.line.Line.TheVariants as line
use Rattle.journal_readings.specs.Settings.{policy_of, policy_step, factor_of, factor_step, declared_in, nodes}
use Rattle.journal_readings.specs.Lines.{is_exchanged, is_settled_line}
use Rattle.journal_readings.specs.Settled.{is_settled}
use Rattle.journal_readings.specs.Stamps.{is_empty_everywhere}
use Rattle.journal_readings.specs.Views.{master}
use Rattle.journal_readings.specs.Shape.{is_header, follows_header}
use Rattle.journal_readings.proofs.StepLaws.{fold-more}
use Rattle.journal_readings.proofs.Unwritten.{writes, IsUnwritten}
use Rattle.journal_readings.proofs.Fronts.{and_left, and_right}
use Rattle.audit_laws.proofs.Tests.{differ}

-- ---- behind the header

policy_step-other : (by : Policy) (l : Line) → is_header l ≡ false → policy_step by l ≡ by
policy_step-other by (line.Policy named) e = differ refl e
policy_step-other by l e = refl

factor_step-other : (factor : ℕ) (l : Line) → is_header l ≡ false → factor_step factor l ≡ factor
factor_step-other factor (line.Factor named) e = differ refl e
factor_step-other factor l e = refl

declared_in-other : (l : Line) → is_header l ≡ false → filter_map declared_in (l ∷ []) ≡ []
declared_in-other (line.Node n rack) e = differ refl e
declared_in-other l e = refl

pub policy_stays : (j : List Line) (l : Line) → is_header l ≡ false → policy_of (j ++ l ∷ []) ≡ policy_of j
unfolding policy_of
policy_stays j l e = fold-more policy_step _ j l ∙ policy_step-other (policy_of j) l e

pub factor_stays : (j : List Line) (l : Line) → is_header l ≡ false → factor_of (j ++ l ∷ []) ≡ factor_of j
unfolding factor_of
factor_stays j l e = fold-more factor_step _ j l ∙ factor_step-other (factor_of j) l e

pub nodes-more : (j : List Line) (l : Line) → nodes (j ++ l ∷ []) ≡ nodes j ++ nodes (l ∷ [])
unfolding nodes
nodes-more j l = filter_map-append declared_in j (l ∷ [])

pub nodes_stay : (j : List Line) (l : Line) → is_header l ≡ false → nodes (j ++ l ∷ []) ≡ nodes j
unfolding nodes
nodes_stay j l e = nodes-more j l ∙ (ap (λ (ns : List ℕ). nodes j ++ ns) (declared_in-other l e) ∙ append-nil (nodes j))

-- ---- within the header

-- the journal has no line but those of a header
abbrev pub IsBare : List Line → Type 0
IsBare j = list_all is_header j ≡ true

-- a line of a header stands behind such lines alone
pub behind_header : (j : List Line) (l : Line) → follows_header j l ≡ true → (is_header l ≡ false) ⊎ (IsBare j × (is_header l ≡ true))
behind_header j l e = go (is_header l) refl (or_cases (not (is_header l)) (list_all is_header j) e)
  where
    go : (b : Bool) → is_header l ≡ b → (not (is_header l) ≡ true) ⊎ (list_all is_header j ≡ true) → (is_header l ≡ false) ⊎ (IsBare j × (is_header l ≡ true))
    go false i h = inl i
    go true i (inl h) = inl (not-true (is_header l) h)
    go true i (inr h) = inr (h, i)

pub bare-more : (j : List Line) (l : Line) → IsBare j → is_header l ≡ true → IsBare (j ++ l ∷ [])
bare-more [] l h e = and_from (is_header l) true e refl
bare-more (x ∷ j) l h e = and_from (is_header x) _ (and_left (is_header x) _ h) (bare-more j l (and_right (is_header x) _ h) e)

pub bare_front : (i : ℕ) (j : List Line) → IsBare j → IsBare (take i j)
bare_front zero j h = refl
bare_front (suc i) [] h = refl
bare_front (suc i) (x ∷ j) h = and_from (is_header x) _ (and_left (is_header x) _ h) (bare_front i j (and_right (is_header x) _ h))

-- no line of it passes a test that no line of a header passes
pub bare-none : (test : Line → Bool) → ((x : Line) → is_header x ≡ true → test x ≡ false) → (j : List Line) → IsBare j → list_any test j ≡ false
bare-none test h [] e = refl
bare-none test h (x ∷ j) e = go (test x) (h x (and_left (is_header x) _ e)) (bare-none test h j (and_right (is_header x) _ e))
  where
    go : (b : Bool) → b ≡ false → list_any test j ≡ false → (b || list_any test j) ≡ false
    go true f g = f
    go false f g = g

header-unwriting : (d : List ℕ) (x : Line) → is_header x ≡ true → writes d x ≡ false
header-unwriting d (line.Apply m k t e v) h = differ h refl
header-unwriting d (line.Merge m k e v) h = differ h refl
header-unwriting d x h = refl

pub bare-unwritten : (d : List ℕ) (j : List Line) → IsBare j → IsUnwritten d j
bare-unwritten d j h = bare-none (writes d) (header-unwriting d) j h

header-unsettling : (k : ClusterKey) (n p : ℕ) (x : Line) → is_header x ≡ true → is_settled_line k n p x ≡ false
header-unsettling k n p (line.Settled m l q) h = differ h refl
header-unsettling k n p x h = refl

header-unexchanged : (k : ClusterKey) (n : ℕ) (x : Line) → is_header x ≡ true → is_exchanged k n x ≡ false
header-unexchanged k n (line.Exchanged m l) h = differ h refl
header-unexchanged k n x h = refl

neither : (a b c : Bool) → a ≡ false → b ≡ false → (a || (b && c)) ≡ false
neither false false c e f = refl
neither true b c e f = e
neither false true c e f = cc

pub bare-unsettled : (k : ClusterKey) (p : ℕ) (j : List Line) → IsBare j → is_settled k p j ≡ false
unfolding is_settled
bare-unsettled k p j h = neither (list_any (is_settled_line k (master k p j) p) j) (list_any (is_exchanged k (master k p j)) j) (is_empty_everywhere k p j)
    (bare-none (is_settled_line k (master k p j) p) (header-unsettling k (master k p j) p) j h) (bare-none (is_exchanged k (master k p j)) (header-unexchanged k (master k p j)) j h)
