-- What an event that may come names, and where it stands.
use Rattle.std.proofs.Common.{◌≡◌, ◌==◌, ◌&&◌, ◌||◌, inl, inr, ℕ, suc, ◌<◌, Bool, true, false, List, [], ◌∷◌, length, not, cond, get_or, Option, Some, None, IfSome, refl, sym, ap, subst, ◌∙◌, arith}
use Rattle.std.specs.Prelude.{nat_lt, slice_get, Contains, IsNone, map}
use Rattle.std.specs.List.{list_all, position, prefix_len}
use Rattle.std.proofs.lemmas.Bool.Decides.{nat_tests}
use Rattle.std.proofs.lemmas.List.Quantifiers.{position-Some}
use Rattle.std.proofs.lemmas.Option.{slice_get-get_or, slice_get_within, get_or_from_slice_get}
use Rattle.cluster_types.specs.Distinct.{AreDistinct}
use Rattle.cluster_types.proofs.BoolFacts.{and_left}
use Rattle.partition_lists.specs.Lists.{in_order}
use Rattle.partition_lists.proofs.InOrderLaws.{Has, differ_distinct, differ_in_order, distinct_differ, has_in_order, index_of, in_order_has, has_at}
use Rattle.cluster_rules.specs.declared.event.Event.{Event}
use Rattle.cluster_rules.specs.Allowed.{event_nodes}
use Rattle.journal_readings.specs.Lines.{has_node}
use Rattle.cluster_rules.specs.Opening.{declared_nodes}
use Rattle.cluster_rules.specs.Steps.{all_marks}
use Rattle.cluster_rules.specs.World.{opened}
use Rattle.cluster_rules.proofs.AllowedLaws.{nodes_stay}
use Rattle.world.specs.Steps.{RunSoFar, MayCome, StandsAt, standing}

-- the declared nodes stay
pub same_nodes : (r : RunSoFar) → (standing r).nodes ≡ declared_nodes r.header
unfolding standing
same_nodes r = nodes_stay (all_marks r.steps) (opened r.header)

-- one of the nodes, by a test and by its place
pub has_contains : (ids : List ℕ) (n : ℕ) → has_node ids n ≡ true → Contains ids n
has_contains [] n e = cc
has_contains (m ∷ ids) n e = go (m == n) refl e (has_contains ids n)
  where
    go : (b : Bool) → (m == n) ≡ b → (b || has_node ids n) ≡ true → (has_node ids n ≡ true → Contains ids n) → Contains (m ∷ ids) n
    go true t e rest = let same : m ≡ n = grind (arith, nat_tests, t) in (0, omega arith, same)
    go false t e rest = let there = rest e in (suc there.0, omega (arith, there.1), there.2)

pub contains_has : (ids : List ℕ) (n : ℕ) → Contains ids n → Has ids n
contains_has ids n h = subst (λ m. Has ids m) h.2 (has_at ids h.0 n h.1)

pub has_there : (ids : List ℕ) (n : ℕ) → Has ids n → Contains ids n
has_there ids n h = let at = index_of ids n h in (at.0, at.1, at.2 n)

pub test_has : (ids : List ℕ) (n : ℕ) → Has ids n → has_node ids n ≡ true
test_has [] n h = absurd h
test_has (m ∷ ids) n h = elim h [
  | inl same ↦ (let t : (m == n) ≡ true = grind (arith, nat_tests, same) in ap (λ b. b || has_node ids n) t)
  | inr later ↦ go (m == n) (test_has ids n later)
]
  where
    go : (b : Bool) → has_node ids n ≡ true → (b || has_node ids n) ≡ true
    go true e = refl
    go false e = e

-- an event that names one node names a declared one
pub names_declared : (r : RunSoFar) (e : Event) (n : ℕ) → event_nodes e ≡ n ∷ [] → MayCome r e → Contains (declared_nodes r.header) n
names_declared r e n named comes =
    let known : list_all (has_node (standing r).nodes) (event_nodes e) ≡ true = and_left _ _ (and_left _ _ comes) in
    let one : (has_node (standing r).nodes n && true) ≡ true = sym (ap (list_all (has_node (standing r).nodes)) named) ∙ known in
    subst (λ (ns : List ℕ). Contains ns n) (same_nodes r) (has_contains (standing r).nodes n (and_left _ _ one))

-- ---- the ids in rising order

pub ids_distinct : (ids : List ℕ) → AreDistinct ids → AreDistinct (in_order nat_lt ids)
ids_distinct ids h = subst AreDistinct (map_same (in_order nat_lt ids)) (differ_distinct (λ (m : ℕ). m) (in_order nat_lt ids) (differ_in_order nat_lt (λ (m : ℕ). m) ids (distinct_differ (λ (m : ℕ). m) ids (subst AreDistinct (sym (map_same ids)) h))))
  where
    map_same : (ms : List ℕ) → map (λ (m : ℕ). m) ms ≡ ms
    map_same [] = refl
    map_same (m ∷ ms) = ap (λ xs. m ∷ xs) (map_same ms)

-- and what has a place is declared
pub placed_declared : (r : RunSoFar) (place n : ℕ) → StandsAt r place n → Contains (declared_nodes r.header) n
placed_declared r place n h =
    let ids : List ℕ = in_order nat_lt (declared_nodes r.header) in
    has_there (declared_nodes r.header) n (in_order_has nat_lt (declared_nodes r.header) n (contains_has ids n (place, slice_get_within ids place n h, get_or_from_slice_get ids place n n h)))

-- ---- an id is found by its position

before_it : (ids : List ℕ) (n : ℕ) → Has ids n → prefix_len (λ m. not (m == n)) ids < length ids
before_it [] n h = absurd h
before_it (m ∷ ids) n h = go (m == n) refl h (before_it ids n)
  where
    go : (b : Bool) → (m == n) ≡ b → Has (m ∷ ids) n → (Has ids n → prefix_len (λ x. not (x == n)) ids < length ids) → prefix_len (λ x. not (x == n)) (m ∷ ids) < length (m ∷ ids)
    go true is h later = rw is (omega arith)
    go false is (inl same) later = absurd (clash (sym is ∙ equal))
      where
        equal : (m == n) ≡ true
        equal = grind (arith, nat_tests, same)

        clash : false ≡ true → ⊥
        clash wrong = cc
    go false is (inr rest) later = let below = later rest in rw is (omega (arith, below))

pub found_at : (r : RunSoFar) (ids : List ℕ) (n : ℕ) (o : Option ℕ) → ids ≡ in_order nat_lt (declared_nodes r.header) → o ≡ position (λ m. m == n) ids → IfSome o (λ place. StandsAt r place n)
found_at r ids n None are is = tt
found_at r ids n (Some place) are is =
    let at = position-Some (λ m. m == n) ids place n (sym is) in
    let same : get_or ids place n ≡ n = grind (arith, nat_tests, at.1) in
    ap (λ (xs : List ℕ). slice_get xs place) (sym are) ∙ slice_get-get_or ids place n at.0 ∙ ap Some same

pub not_found : (r : RunSoFar) (ids : List ℕ) (n : ℕ) (o : Option ℕ) → ids ≡ in_order nat_lt (declared_nodes r.header) → o ≡ position (λ m. m == n) ids → IsNone o → ¬ (Contains (declared_nodes r.header) n)
not_found r ids n None are is none =
    λ named.
    let has : Has ids n = subst (λ (xs : List ℕ). Has xs n) (sym are) (has_in_order nat_lt (declared_nodes r.header) n (contains_has (declared_nodes r.header) n named)) in
    let below : prefix_len (λ m. not (m == n)) ids < length ids = before_it ids n has in
    let within : nat_lt (prefix_len (λ m. not (m == n)) ids) (length ids) ≡ true = grind (arith, nat_tests, below) in
    wrong (is ∙ ap (λ b. cond b (Some (prefix_len (λ m. not (m == n)) ids)) None) within)
  where
    wrong : None ≡ Some (prefix_len (λ m. not (m == n)) ids) → ⊥
    wrong no_way = cc
not_found r ids n (Some place) are is none = cc none
