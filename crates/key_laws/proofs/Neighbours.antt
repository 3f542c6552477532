-- Neighbours as a list of members: they fall, and the node itself is one of them.
use Rattle.std.proofs.Common.{◌≡◌, ℕ, zero, suc, ◌<◌, ◌==◌, ◌||◌, nat_lt, Bool, true, false, cond, List, [], ◌∷◌, map, refl, sym, subst, arith}
use Rattle.std.specs.Prelude.{All, AllPairs, filter}
use Rattle.std.specs.List.{list_any}
use mathlib.Core.List.{reverse_aux}
use Rattle.std.proofs.lemmas.Bool.Decides.{nat_tests}
use Rattle.std.specs.Ordering.{nat_cmp}
use Rattle.std.specs.FinMap.{put}
use Rattle.std.proofs.lemmas.Bool.{or_left as either, or_right as or_later}
use Rattle.cluster_types.specs.declared.member.Member.{Member}
use Rattle.cluster_types.specs.declared.member.Role.{Role}
use Rattle.wire_messages.specs.Nodes.{IsId}
use Rattle.cluster_types.specs.Distinct.{IsDescending}
use Rattle.cluster_types.specs.Members.{ids_of}
use Rattle.node_rules.specs.Exchange.{is_member}
use Rattle.node_rules.specs.Hearing.{Heard, heard_ids, neighbours_of, aged, older, names, member_of, timeout}
use Rattle.node_rules.specs.Tables.{Table, table_with}
use Rattle.key_laws.specs.Traced.{Traced}
use Rattle.key_laws.specs.Sound.{GoodList, HeardOf, HeardAll, Hears, RisesByNumber, IsUnder}

pub by_test : {A : Type 0} (P : A → Type 0) (b : Bool) (x y : A) → P x → P y → P (cond b x y)
by_test P true x y h i = h
by_test P false x y h i = i

-- ---- tables

-- an entry is put in: before the first, at its place, or behind it
pub put_cases : {X : Type 0} (P : List (ℕ × X) → Type 0) (k : ℕ) (v : X) (e : ℕ × X) (es : List (ℕ × X))
    → (k < e.0 → P ((k, v) ∷ e ∷ es)) → (k ≡ e.0 → P ((e.0, v) ∷ es)) → (e.0 < k → P (e ∷ put nat_cmp k v es)) → P (put nat_cmp k v (e ∷ es))
put_cases {X} P k v e es before at behind = go (nat_lt k e.0) (k == e.0) refl refl
  where
    go : (a b : Bool) → nat_lt k e.0 ≡ a → (k == e.0) ≡ b → P (put nat_cmp k v (e ∷ es))
    go true b p q = rw p (before (grind (arith, nat_tests)))
    go false true p q = rw (p, q) (at (grind (arith, nat_tests)))
    go false false p q = rw (p, q) (behind (grind (arith, nat_tests)))

under_less : {X : Type 0} (a b : ℕ) (es : List (ℕ × X)) → a < b → IsUnder b es → IsUnder a es
under_less a b [] lt h = tt
under_less a b (e ∷ es) lt h = (omega (arith, h.0), under_less a b es lt h.1)

under_put : {X : Type 0} (n k : ℕ) (v : X) (es : List (ℕ × X)) → n < k → IsUnder n es → IsUnder n (put nat_cmp k v es)
under_put n k v [] lt h = (lt, tt)
under_put n k v (e ∷ es) lt h = put_cases (λ xs. IsUnder n xs) k v e es (λ _. (lt, h)) (λ _. h) (λ _. (h.0, under_put n k v es lt h.1))

rises_put : {X : Type 0} (k : ℕ) (v : X) (es : List (ℕ × X)) → RisesByNumber es
    → RisesByNumber (put nat_cmp k v es)
rises_put k v [] h = (tt, tt)
rises_put k v (e ∷ es) h = put_cases (λ xs. RisesByNumber xs) k v e es
    (λ lt. ((lt, under_less k e.0 es lt h.0), h))
    (λ eq. h)
    (λ gt. (under_put e.0 k v es gt h.0, rises_put k v es h.1))

-- ---- what is heard

heard_put : (t : Traced) (k : ℕ) (v : Heard) (es : Table Heard) → HeardOf t (k, v) → HeardAll t es → HeardAll t (put nat_cmp k v es)
heard_put t k v [] here h = (here, tt)
heard_put t k v (e ∷ es) here h = put_cases (λ xs. HeardAll t xs) k v e es
    (λ lt. (here, h))
    (λ eq. (record { sender = h.0.sender; view = here.view; promised = here.promised }, h.1))
    (λ gt. (h.0, heard_put t k v es here h.1))

pub beat_hears : (t : Traced) (heard : Table Heard) (from : ℕ) (new : Heard) → HeardOf t (from, new) → Hears t heard → Hears t (table_with heard from new)
beat_hears t heard from new here h = record { rises = rises_put from new heard h.rises; each = heard_put t from new heard here h.each }

under_aged : (n : ℕ) (es : Table Heard) → IsUnder n es → IsUnder n (aged es)
under_aged n [] h = tt
under_aged n (e ∷ es) h = by_test (λ xs. IsUnder n xs) (nat_lt (older e).1.age timeout) (older e ∷ aged es) (aged es) (h.0, under_aged n es h.1) (under_aged n es h.1)

rises_aged : (es : Table Heard) → RisesByNumber es → RisesByNumber (aged es)
rises_aged [] h = tt
rises_aged (e ∷ es) h = by_test (λ xs. RisesByNumber xs) (nat_lt (older e).1.age timeout) (older e ∷ aged es) (aged es) (under_aged e.0 es h.0, rises_aged es h.1) (rises_aged es h.1)

heard_aged : (t : Traced) (es : Table Heard) → HeardAll t es → HeardAll t (aged es)
heard_aged t [] h = tt
heard_aged t (e ∷ es) h = by_test (λ xs. HeardAll t xs) (nat_lt (older e).1.age timeout) (older e ∷ aged es) (aged es) (record { sender = h.0.sender; view = h.0.view; promised = h.0.promised }, heard_aged t es h.1) (heard_aged t es h.1)

-- one tick later those that aren't forgotten are heard still
pub aged_hears : (t : Traced) (heard : Table Heard) → Hears t heard → Hears t (aged heard)
aged_hears t heard h = record { rises = rises_aged heard h.rises; each = heard_aged t heard h.each }

-- ---- the roles of those that are heard and hear the node

abbrev roles : ℕ → Table Heard → Table Role
roles n es = map (λ e. (e.0, e.1.beat.role)) (filter (names n) es)

abbrev FitTable : {X : Type 0} → Table X → Type 0
FitTable [] = Unit {0}
FitTable (e ∷ es) = IsId e.0 × FitTable es

under_roles : (m n : ℕ) (es : Table Heard) → IsUnder m es → IsUnder m (roles n es)
under_roles m n [] h = tt
under_roles m n (e ∷ es) h = by_test (λ xs. IsUnder m (map (λ e. (e.0, e.1.beat.role)) xs)) (names n e) (e ∷ filter (names n) es) (filter (names n) es) (h.0, under_roles m n es h.1) (under_roles m n es h.1)

rises_roles : (n : ℕ) (es : Table Heard) → RisesByNumber es → RisesByNumber (roles n es)
rises_roles n [] h = tt
rises_roles n (e ∷ es) h = by_test (λ xs. RisesByNumber (map (λ e. (e.0, e.1.beat.role)) xs)) (names n e) (e ∷ filter (names n) es) (filter (names n) es) (under_roles e.0 n es h.0, rises_roles n es h.1) (rises_roles n es h.1)

fit_roles : (t : Traced) (n : ℕ) (es : Table Heard) → HeardAll t es → FitTable (roles n es)
fit_roles t n [] h = tt
fit_roles t n (e ∷ es) h = by_test (λ xs. FitTable (map (λ e. (e.0, e.1.beat.role)) xs)) (names n e) (e ∷ filter (names n) es) (filter (names n) es) (h.0.sender, fit_roles t n es h.1) (fit_roles t n es h.1)

fit_put : {X : Type 0} (k : ℕ) (v : X) (es : Table X) → IsId k → FitTable es → FitTable (put nat_cmp k v es)
fit_put k v [] lt h = (lt, tt)
fit_put k v (e ∷ es) lt h = put_cases (λ xs. FitTable xs) k v e es (λ _. (lt, h)) (λ _. h) (λ _. (h.0, fit_put k v es lt h.1))

abbrev has : {X : Type 0} → ℕ → Table X → Bool
has n es = list_any (λ e. e.0 == n) es

has_put : {X : Type 0} (k : ℕ) (v : X) (es : Table X) → has k (put nat_cmp k v es) ≡ true
has_put k v [] = either (k == k) false (grind (arith, nat_tests))
has_put k v (e ∷ es) = put_cases (λ xs. list_any (λ e. e.0 == k) xs ≡ true) k v e es
    (λ _. either (k == k) _ (grind (arith, nat_tests)))
    (λ eq. either (e.0 == k) _ (grind (arith, nat_tests)))
    (λ _. or_later _ _ (has_put k v es))

-- ---- a table as a list of members, from the last entry to the first

abbrev onto : Table Role → List Member → List Member
onto [] ms = ms
onto (e ∷ es) ms = onto es (member_of e ∷ ms)

neighbours_onto : (es : Table Role) (ms : List Member) → reverse_aux (map member_of es) ms ≡ onto es ms
neighbours_onto [] ms = refl
neighbours_onto (e ∷ es) ms = neighbours_onto es (member_of e ∷ ms)

abbrev IsOver : ℕ → List Member → Type 0
IsOver n [] = Unit {0}
IsOver n (m ∷ ms) = (m.id < n) × IsOver n ms

abbrev Falls : List Member → Type 0
Falls [] = Unit {0}
Falls (m ∷ ms) = IsOver m.id ms × Falls ms

abbrev AreOver : Table Role → List Member → Type 0
AreOver [] ms = Unit {0}
AreOver (e ∷ es) ms = IsOver e.0 ms × AreOver es ms

over_more : (es : Table Role) (m : Member) (ms : List Member) → IsUnder m.id es → AreOver es ms → AreOver es (m ∷ ms)
over_more [] m ms u h = tt
over_more (e ∷ es) m ms u h = ((u.0, h.0), over_more es m ms u.1 h.1)

falls_onto : (es : Table Role) (ms : List Member) → RisesByNumber es → Falls ms → AreOver es ms → Falls (onto es ms)
falls_onto [] ms r f o = f
falls_onto (e ∷ es) ms r f o = falls_onto es (member_of e ∷ ms) r.1 (o.0, f) (over_more es (member_of e) ms r.0 o.1)

over_none : (es : Table Role) → AreOver es []
over_none [] = tt
over_none (e ∷ es) = (tt, over_none es)

abbrev FitMembers : List Member → Type 0
FitMembers [] = Unit {0}
FitMembers (m ∷ ms) = IsId m.id × FitMembers ms

fit_onto : (es : Table Role) (ms : List Member) → FitTable es → FitMembers ms → FitMembers (onto es ms)
fit_onto [] ms h f = f
fit_onto (e ∷ es) ms h f = fit_onto es (member_of e ∷ ms) h.1 (h.0, f)

led_onto : (n : ℕ) (es : Table Role) (ms : List Member) → (has n es || is_member ms n) ≡ true → is_member (onto es ms) n ≡ true
led_onto n [] ms h = h
led_onto n (e ∷ es) ms h = led_onto n es (member_of e ∷ ms) (swapped (e.0 == n) (list_any (λ e. e.0 == n) es) (is_member ms n) h)
  where
    swapped : (a b c : Bool) → ((a || b) || c) ≡ true → (b || (a || c)) ≡ true
    swapped true true c h = refl
    swapped true false c h = refl
    swapped false b c h = h

-- ---- in the words of lists

pub all_cons : {A : Type 0} (P : A → Type 0) (x : A) (xs : List A) → P x → All P xs → All P (x ∷ xs)
all_cons P x xs h hs zero d within = h
all_cons P x xs h hs (suc k) d within = hs k d (omega (arith, within))

pub all_none : {A : Type 0} (P : A → Type 0) → All P []
all_none P k d within = absurd (omega (arith, within))

fit_all : (ms : List Member) → FitMembers ms → All (λ m. IsId m.id) ms
fit_all [] h = all_none (λ m. IsId m.id)
fit_all (m ∷ ms) h = all_cons (λ m. IsId m.id) m ms h.0 (fit_all ms h.1)

over_all : (n : ℕ) (ms : List Member) → IsOver n ms → All (λ i. i < n) (ids_of ms)
over_all n [] h = all_none (λ i. i < n)
over_all n (m ∷ ms) h = all_cons (λ i. i < n) m.id (ids_of ms) h.0 (over_all n ms h.1)

pairs_cons : {A : Type 0} (R : A → A → Type 0) (x : A) (xs : List A) → All (R x) xs → AllPairs R xs → AllPairs R (x ∷ xs)
pairs_cons R x xs h hs zero zero d lower within = absurd (omega (arith, lower))
pairs_cons R x xs h hs zero (suc k) d lower within = h k d (omega (arith, within))
pairs_cons R x xs h hs (suc j) zero d lower within = absurd (omega (arith, lower))
pairs_cons R x xs h hs (suc j) (suc k) d lower within = hs j k d (omega (arith, lower)) (omega (arith, within))

pairs_none : {A : Type 0} (R : A → A → Type 0) → AllPairs R []
pairs_none R i j d lower within = absurd (omega (arith, within))

falls_pairs : (ms : List Member) → Falls ms → AllPairs (λ x y. y < x) (ids_of ms)
falls_pairs [] h = pairs_none (λ x y. y < x)
falls_pairs (m ∷ ms) h = pairs_cons (λ x y. y < x) m.id (ids_of ms) (over_all m.id ms h.0) (falls_pairs ms h.1)

good_onto : (n : ℕ) (role : Role) (es : Table Role) → IsId n → RisesByNumber es → FitTable es → GoodList n (onto (put nat_cmp n role es) [])
good_onto n role es fits rises fit = record {
  led = led_onto n (put nat_cmp n role es) [] (either _ _ (has_put n role es));
  fit = fit_all _ (fit_onto (put nat_cmp n role es) [] (fit_put n role es fits fit) tt);
  falls = record { falls = falls_pairs _ (falls_onto (put nat_cmp n role es) [] (rises_put n role es rises) tt (over_none _)) };
}

pub neighbours_good : (t : Traced) (n : ℕ) (role : Role) (heard : Table Heard) → IsId n → Hears t heard → GoodList n (neighbours_of n role heard)
neighbours_good t n role heard fits h =
    subst (λ ms. GoodList n ms) (sym (neighbours_onto (put nat_cmp n role (roles n heard)) []))
    (good_onto n role (roles n heard) fits (rises_roles n heard h.rises) (fit_roles t n heard h.each))

-- ---- the ids that are heard

abbrev all_roles : Table Heard → Table Role
all_roles es = map (λ e. (e.0, e.1.beat.role)) es

under_all : (n : ℕ) (es : Table Heard) → IsUnder n es → IsUnder n (all_roles es)
under_all n [] h = tt
under_all n (e ∷ es) h = (h.0, under_all n es h.1)

rises_all : (es : Table Heard) → RisesByNumber es → RisesByNumber (all_roles es)
rises_all [] h = tt
rises_all (e ∷ es) h = (under_all e.0 es h.0, rises_all es h.1)

fit_roles_all : (t : Traced) (es : Table Heard) → HeardAll t es → FitTable (all_roles es)
fit_roles_all t [] h = tt
fit_roles_all t (e ∷ es) h = (h.0.sender, fit_roles_all t es h.1)

ids_onto : (es : Table Heard) (ms : List Member) → reverse_aux (map (λ e. e.0) es) (ids_of ms) ≡ ids_of (onto (all_roles es) ms)
ids_onto [] ms = refl
ids_onto (e ∷ es) ms = ids_onto es (member_of (e.0, e.1.beat.role) ∷ ms)

ids_fit : (ms : List Member) → FitMembers ms → All IsId (ids_of ms)
ids_fit [] h = all_none IsId
ids_fit (m ∷ ms) h = all_cons IsId m.id (ids_of ms) h.0 (ids_fit ms h.1)

pub heard_falls : (t : Traced) (heard : Table Heard) → Hears t heard → IsDescending (heard_ids heard)
heard_falls t heard h = subst IsDescending (sym (ids_onto heard [])) (record { falls = falls_pairs _ (falls_onto (all_roles heard) [] (rises_all heard h.rises) tt (over_none _)) })

pub heard_fit : (t : Traced) (heard : Table Heard) → Hears t heard → All IsId (heard_ids heard)
heard_fit t heard h = subst (λ (ns : List ℕ). All IsId ns) (sym (ids_onto heard [])) (ids_fit _ (fit_onto (all_roles heard) [] (fit_roles_all t heard h.each) tt))
