-- Neighbours are settled by whom a node hears: of two tables that tell the same they are the same list.
use Rattle.std.proofs.Common.{◌≡◌, ℕ, ◌<◌, ◌==◌, ◌&&◌, Bool, true, false, cond, [], ◌∷◌, map, Option, Some, None, refl, sym, ap, subst, ◌∙◌, arith, nat_lt}
use Rattle.std.specs.Prelude.{filter, T}
use Rattle.std.specs.FinMap.Entries.{find, is_sorted, below_all}
use Rattle.std.specs.declared.cmp.Ordering.TheVariants.{Less, Equal, Greater}
use Rattle.std.specs.Ordering.{nat_cmp, is_eq, is_lt}
use Rattle.std.proofs.lemmas.Bool.Decides.{nat_tests}
use Rattle.cluster_types.specs.declared.member.Role.{Role}
use Rattle.node_rules.specs.Hearing.{Heard, names}
use Rattle.node_rules.specs.Tables.{Table, contains}
use Rattle.cluster_rules.proofs.KeptFacts.{num_same}
use Rattle.cluster_laws.proofs.GroundLaws.{apart}
use Rattle.key_laws.specs.Sound.{RisesByNumber, IsUnder}
use Rattle.calm_laws.proofs.Hears.{ties}
use Rattle.calm_laws.specs.Flows.{look}

-- ---- tables in order

both : (a b : Bool) → T a → T b → T (a && b)
both true b p q = q
both false b p q = p

less_is : (n m : ℕ) → n < m → T (is_lt (nat_cmp n m))
less_is n m lt = subst (λ (b : Bool). T (is_lt (cond b Less (cond (n == m) Equal Greater)))) (sym (below n m lt)) tt
  where
    below : (n m : ℕ) → n < m → nat_lt n m ≡ true
    below n m lt = grind (arith, nat_tests)

under_below : {X : Type 0} (n : ℕ) (es : Table X) → IsUnder n es → T (below_all nat_cmp n es)
under_below n [] h = tt
under_below n (e ∷ es) h = both (is_lt (nat_cmp n e.0)) (below_all nat_cmp n es) (less_is n e.0 h.0) (under_below n es h.1)

pub rises_sorted : {X : Type 0} (es : Table X) → RisesByNumber es → T (is_sorted nat_cmp es)
rises_sorted [] h = tt
rises_sorted (e ∷ es) h = both (below_all nat_cmp e.0 es) (is_sorted nat_cmp es) (under_below e.0 es h.0) (rises_sorted es h.1)

-- ---- the roles of those that are heard and hear the node

abbrev pub roles : ℕ → Table Heard → Table Role
roles me t = map (λ (e : ℕ × Heard). (e.0, e.1.beat.role)) (filter (names me) t)

under_roles : (x me : ℕ) (t : Table Heard) → IsUnder x t → IsUnder x (roles me t)
under_roles x me [] h = tt
under_roles x me (e ∷ t) h = go (names me e) (under_roles x me t h.1)
  where
    go : (b : Bool) → IsUnder x (roles me t) → IsUnder x (map (λ (e : ℕ × Heard). (e.0, e.1.beat.role)) (cond b (e ∷ filter (names me) t) (filter (names me) t)))
    go true rest = (h.0, rest)
    go false rest = rest

pub rises_roles : (me : ℕ) (t : Table Heard) → RisesByNumber t → RisesByNumber (roles me t)
rises_roles me [] h = tt
rises_roles me (e ∷ t) h = go (names me e) (rises_roles me t h.1)
  where
    go : (b : Bool) → RisesByNumber (roles me t) → RisesByNumber (map (λ (e : ℕ × Heard). (e.0, e.1.beat.role)) (cond b (e ∷ filter (names me) t) (filter (names me) t)))
    go true rest = (under_roles e.0 me t h.0, rest)
    go false rest = rest

-- what an entry shows: its role, where its beat names the node
abbrev pub shown : ℕ → Option Heard → Option Role
shown me None = None
shown me (Some h) = cond (contains h.beat.hears me) (Some h.beat.role) None

above_not : (m x : ℕ) → m < x → m ≡ x → ⊥
above_not m x lt e = omega (arith, lt, e)

pub not_under : (m : ℕ) (t : Table Heard) → IsUnder m t → look t m ≡ None
not_under m [] h = refl
not_under m (e ∷ t) h = ap (λ (b : Bool). cond b (Some e.1) (look t m)) (ties m e.0 ∙ apart m e.0 (above_not m e.0 h.0)) ∙ not_under m t h.1

pub find_roles : (me m : ℕ) (t : Table Heard) → RisesByNumber t → find nat_cmp m (roles me t) ≡ shown me (look t m)
find_roles me m [] h = refl
find_roles me m (e ∷ t) h = go (names me e) refl (m == e.0) refl (find_roles me m t h.1)
  where
    go : (b : Bool) → names me e ≡ b → (c : Bool) → (m == e.0) ≡ c → find nat_cmp m (roles me t) ≡ shown me (look t m)
        → find nat_cmp m (map (λ (e : ℕ × Heard). (e.0, e.1.beat.role)) (cond b (e ∷ filter (names me) t) (filter (names me) t))) ≡ shown me (look (e ∷ t) m)
    go true n true c rest =
        ap (λ (b : Bool). cond b (Some e.1.beat.role) (find nat_cmp m (roles me t))) (ties m e.0 ∙ c)
        ∙ ap (λ (b : Bool). cond b (Some e.1.beat.role) None) (sym n)
        ∙ ap (λ (b : Bool). shown me (cond b (Some e.1) (look t m))) (sym (ties m e.0 ∙ c))
    go true n false c rest =
        ap (λ (b : Bool). cond b (Some e.1.beat.role) (find nat_cmp m (roles me t))) (ties m e.0 ∙ c)
        ∙ rest
        ∙ ap (λ (b : Bool). shown me (cond b (Some e.1) (look t m))) (sym (ties m e.0 ∙ c))
    go false n true c rest =
        rest
        ∙ ap (λ (o : Option Heard). shown me o) (subst (λ (x : ℕ). look t x ≡ None) (sym (num_same m e.0 c)) (not_under e.0 t h.0))
        ∙ ap (λ (b : Bool). cond b (Some e.1.beat.role) None) (sym n)
        ∙ ap (λ (b : Bool). shown me (cond b (Some e.1) (look t m))) (sym (ties m e.0 ∙ c))
    go false n false c rest = rest ∙ ap (λ (b : Bool). shown me (cond b (Some e.1) (look t m))) (sym (ties m e.0 ∙ c))

pub tied : (x y : ℕ) → nat_cmp x y ≡ Equal → x ≡ y
tied x y e = num_same x y (sym (ties x y) ∙ ap is_eq e)

-- ---- the neighbours of an up node stay
