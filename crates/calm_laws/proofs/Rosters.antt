-- The list of a group: its nodes with their roles, in falling order.
use Rattle.std.proofs.Common.{◌≡◌, ◌⊎◌, inl, inr, ℕ, ◌≤◌, ◌<◌, ◌==◌, ◌||◌, nat_lt, nat_le, Bool, true, false, cond, List, [], ◌∷◌, ◌++◌, map, reverse, All, length, Some, None, refl, sym, ap, subst, ◌∙◌, append-nil, arith}
use Rattle.std.specs.Prelude.{if◌then◌else◌}
use mathlib.Core.List.{reverse_aux}
use Rattle.std.proofs.lemmas.Bool.Decides.{nat_tests}
use Rattle.std.proofs.lemmas.List.Kept.{AllPairs-cons}
use Rattle.cluster_types.specs.declared.member.Member.{Member}
use Rattle.cluster_types.specs.declared.member.Role.{Role}
use Rattle.cluster_types.specs.Distinct.{IsDescending}
use Rattle.cluster_types.specs.Members.{ids_of}
use Rattle.partition_lists.specs.Lists.{in_order, put_in_order}
use Rattle.partition_lists.proofs.InOrderLaws.{DifferBy, Each, each_has, equal, Has, has_in_order, in_order_has, IsStrictOrder, rises_in_order}
use Rattle.partition_lists.proofs.InOrderLaws as orders
use Rattle.wire_messages.specs.Nodes.{IsId}
use Rattle.node_rules.specs.Hearing.{member_of}
use Rattle.node_rules.specs.Tables.{Table, at, contains}
use Rattle.journal_readings.specs.Lines.{has_node}
use Rattle.cluster_rules.specs.Calm.{as_members}
use Rattle.cluster_rules.specs.World.{World, members_now}
use Rattle.cluster_rules.proofs.KeptFacts.{num_same}
use Rattle.cluster_laws.proofs.At.{differ}
use Rattle.cluster_laws.proofs.GroundLaws.{apart}
use Rattle.key_laws.specs.Ends.{IsOneOf}
use Rattle.key_laws.specs.Sound.{GoodList, IsUnder, RisesByNumber}
use Rattle.key_laws.proofs.Neighbours.{all_cons, all_none}
use Rattle.key_laws.proofs.NamedLines.{MembersAs, all_members}
use Rattle.key_laws.proofs.Peopled.{FitsRack}
use Rattle.run_laws.proofs.AllRead.{members_proper}
use Rattle.run_laws.proofs.Words.{both_ways}
use Rattle.calm_laws.specs.Turns.{Roll, Roster}
use Rattle.calm_laws.proofs.Hears.{ties}
use Rattle.calm_laws.proofs.Rolls.{member_listed}

-- ---- numbers in falling order

abbrev pub falling : ℕ → ℕ → Bool
falling m n = nat_lt n m

falling_order : IsStrictOrder falling
falling_order = record {
  transitive = λ a b c p q. grind (arith, nat_tests);
  irreflexive = λ a. grind (arith, nat_tests);
  connected = λ a b p q. grind (arith, nat_tests);
}

ids_put : (m : Member) (ms : List Member) → ids_of (put_in_order (λ (a : Member) (b : Member). nat_lt b.id a.id) m ms) ≡ put_in_order falling m.id (ids_of ms)
ids_put m [] = refl
ids_put m (x ∷ ms) = go (nat_lt m.id x.id) (ids_put m ms)
  where
    go : (b : Bool) → ids_of (put_in_order (λ (a : Member) (b : Member). nat_lt b.id a.id) m ms) ≡ put_in_order falling m.id (ids_of ms)
        → ids_of (if b then x ∷ put_in_order (λ (a : Member) (b : Member). nat_lt b.id a.id) m ms else (m ∷ x ∷ ms)) ≡ (if b then x.id ∷ put_in_order falling m.id (ids_of ms) else (m.id ∷ x.id ∷ ids_of ms))
    go true e = ap (λ (ns : List ℕ). x.id ∷ ns) e
    go false e = refl

ids_order : (ms : List Member) → ids_of (in_order (λ (a : Member) (b : Member). nat_lt b.id a.id) ms) ≡ in_order falling (ids_of ms)
ids_order [] = refl
ids_order (m ∷ ms) = ids_put m (in_order (λ (a : Member) (b : Member). nat_lt b.id a.id) ms) ∙ ap (put_in_order falling m.id) (ids_order ms)

ids_now : (w : World) (ns : List ℕ) → ids_of (members_now w ns) ≡ ns
ids_now w [] = refl
ids_now w (n ∷ ns) = ap (λ (ms : List ℕ). n ∷ ms) (ids_now w ns)

pub ids_are : (w : World) (gs : List ℕ) → ids_of (as_members w gs) ≡ in_order falling gs
ids_are w gs = ids_order (members_now w gs) ∙ ap (in_order falling) (ids_now w gs)

-- ---- who is in it

pub has_number : (ns : List ℕ) (n : ℕ) → has_node ns n ≡ true → Has ns n
has_number [] n e = differ e refl
has_number (x ∷ ns) n e = go (x == n) refl e (has_number ns n)
  where
    go : (b : Bool) → (x == n) ≡ b → (b || has_node ns n) ≡ true → (has_node ns n ≡ true → Has ns n) → Has (x ∷ ns) n
    go true s f rest = inl (num_same x n s)
    go false s f rest = inr (rest f)

pub number_has : (ns : List ℕ) (n : ℕ) → Has ns n → has_node ns n ≡ true
number_has [] n h = absurd h
number_has (x ∷ ns) n (inl e) = ap (λ (b : Bool). b || has_node ns n) (equal x n e)
number_has (x ∷ ns) n (inr h) = later (x == n) (number_has ns n h)
  where
    later : (b : Bool) → has_node ns n ≡ true → (b || has_node ns n) ≡ true
    later true e = refl
    later false e = e

ordered_same : (gs : List ℕ) (m : ℕ) → has_node (in_order falling gs) m ≡ has_node gs m
ordered_same gs m = both_ways _ _
    (λ e. number_has gs m (in_order_has falling gs m (has_number (in_order falling gs) m e)))
    (λ e. number_has (in_order falling gs) m (has_in_order falling gs m (has_number gs m e)))

pub members_are : (w : World) (gs : List ℕ) (m : ℕ) → contains (ids_of (as_members w gs)) m ≡ has_node gs m
members_are w gs m = ap (λ (ns : List ℕ). contains ns m) (ids_are w gs) ∙ ordered_same gs m

-- ---- it falls

descends : (ns : List ℕ) → orders.Rises falling ns → IsDescending ns
descends [] h = record { falls = λ i j d lower within. absurd (none j within) }
  where
    none : (j : ℕ) → j < length {A = ℕ} [] → ⊥
    none j lt = omega (arith, lt)
descends (n ∷ ns) h = record { falls = AllPairs-cons (λ x y. y < x) n ns (above ns h.0) (descends ns h.1).falls }
  where
    below : (y : ℕ) → falling n y ≡ true → y < n
    below y e = grind (arith, nat_tests)

    above : (ys : List ℕ) → Each (λ y. falling n y ≡ true) ys → All (λ y. y < n) ys
    above [] h = all_none (λ (y : ℕ). y < n)
    above (y ∷ ys) h = all_cons (λ (y : ℕ). y < n) y ys (below y h.0) (above ys h.1)

pub ids_fall : (w : World) (gs : List ℕ) → DifferBy (λ n. n) gs → IsDescending (ids_of (as_members w gs))
ids_fall w gs d = subst IsDescending (sym (ids_are w gs)) (descends (in_order falling gs) (rises_in_order falling_order (λ n. n) gs d))

-- ---- its roles

abbrev Roles : World → Member → Type 0
Roles w m = m.role ≡ (w.facts m.id).role

roles_now : (w : World) (ns : List ℕ) → Each (Roles w) (members_now w ns)
roles_now w [] = tt
roles_now w (n ∷ ns) = (refl, roles_now w ns)

pub roles_are : (w : World) (gs : List ℕ) → Each (Roles w) (as_members w gs)
roles_are w gs = orders.each_in_order (λ (a : Member) (b : Member). nat_lt b.id a.id) (Roles w) (members_now w gs) (roles_now w gs)

-- ---- a table of it

abbrev pair : Member → ℕ × Role
pair m = (m.id, m.role)

map_onto : {A B : Type 0} (f : A → B) (xs acc : List A) → map f (reverse_aux xs acc) ≡ reverse_aux (map f xs) (map f acc)
map_onto f [] acc = refl
map_onto f (x ∷ xs) acc = map_onto f xs (x ∷ acc)

onto_twice : {A : Type 0} (xs acc ys : List A) → reverse_aux (reverse_aux xs acc) ys ≡ reverse_aux acc (xs ++ ys)
onto_twice [] acc ys = refl
onto_twice (x ∷ xs) acc ys = onto_twice xs (x ∷ acc) ys

pairs_back : (ms : List Member) → map member_of (map pair ms) ≡ ms
pairs_back [] = refl
pairs_back (m ∷ ms) = ap (λ (xs : List Member). m ∷ xs) (pairs_back ms)

pub table_of : List Member → Table Role
table_of ms = reverse (map pair ms)

pub table_list : (ms : List Member) → ms ≡ reverse (map member_of (table_of ms))
unfolding table_of
table_list ms =
    sym (ap reverse (map_onto member_of (map pair ms) [] ∙ ap reverse (pairs_back ms)) ∙ onto_twice ms [] [] ∙ append-nil ms)

has_onto : {A : Type 0} (xs acc : List A) (z : A) → Has (reverse_aux xs acc) z → Has xs z ⊎ Has acc z
has_onto [] acc z h = inr h
has_onto {A} (x ∷ xs) acc z h = go (has_onto xs (x ∷ acc) z h)
  where
    go : Has xs z ⊎ Has (x ∷ acc) z → Has (x ∷ xs) z ⊎ Has acc z
    go (inl i) = inl (inr i)
    go (inr (inl e)) = inl (inl e)
    go (inr (inr i)) = inr i

onto_has : {A : Type 0} (xs acc : List A) (z : A) → Has xs z ⊎ Has acc z → Has (reverse_aux xs acc) z
onto_has [] acc z (inl h) = absurd h
onto_has [] acc z (inr h) = h
onto_has (x ∷ xs) acc z (inl (inl e)) = onto_has xs (x ∷ acc) z (inr (inl e))
onto_has (x ∷ xs) acc z (inl (inr h)) = onto_has xs (x ∷ acc) z (inl h)
onto_has (x ∷ xs) acc z (inr h) = onto_has xs (x ∷ acc) z (inr (inr h))

-- each number of the first is below each of the second
abbrev Under : Table Role → Table Role → Type 0
Under [] t = Unit {0}
Under (e ∷ es) t = IsUnder e.0 t × Under es t

under_more : (e : ℕ × Role) (es t : Table Role) → Each (λ y. falling e.0 y ≡ true) (map (λ (x : ℕ × Role). x.0) es) → Under es t → Under es (e ∷ t)
under_more e [] t above h = tt
under_more e (x ∷ es) t above h = ((lower x.0 above.0, h.0), under_more e es t above.1 h.1)
  where
    lower : (y : ℕ) → falling e.0 y ≡ true → y < e.0
    lower y i = grind (arith, nat_tests)

rises_onto : (xs acc : Table Role) → orders.Rises falling (map (λ (x : ℕ × Role). x.0) xs) → RisesByNumber acc → Under xs acc → RisesByNumber (reverse_aux xs acc)
rises_onto [] acc falls r u = r
rises_onto (x ∷ xs) acc falls r u = rises_onto xs (x ∷ acc) falls.1 (u.0, r) (under_more x xs acc falls.0 u.1)

under_none : (xs : Table Role) → Under xs []
under_none [] = tt
under_none (x ∷ xs) = (tt, under_none xs)

pair_ids : (ms : List Member) → map (λ (x : ℕ × Role). x.0) (map pair ms) ≡ ids_of ms
pair_ids [] = refl
pair_ids (m ∷ ms) = ap (λ (ns : List ℕ). m.id ∷ ns) (pair_ids ms)

table_rises : (ms : List Member) → orders.Rises falling (ids_of ms) → RisesByNumber (table_of ms)
unfolding table_of
table_rises ms h = rises_onto (map pair ms) [] (subst (orders.Rises falling) (sym (pair_ids ms)) h) tt (under_none (map pair ms))

-- what the table has under a number
found : (t : Table Role) (m : ℕ) (r : Role) → RisesByNumber t → Has t (m, r) → at t m ≡ Some r
found [] m r h i = absurd i
found (e ∷ t) m r h (inl i) = ap (λ (b : Bool). cond b (Some e.1) (at t m)) (ties m e.0 ∙ equal m e.0 (sym (ap (λ (x : ℕ × Role). x.0) i))) ∙ ap (λ (x : ℕ × Role). Some x.1) i
found (e ∷ t) m r h (inr i) = ap (λ (b : Bool). cond b (Some e.1) (at t m)) (ties m e.0 ∙ apart m e.0 (λ s. above t h.0 i (sym s))) ∙ found t m r h.1 i
  where
    above : (es : Table Role) → IsUnder e.0 es → Has es (m, r) → e.0 ≡ m → ⊥
    above [] u j s = absurd j
    above (x ∷ es) u (inl j) s = omega (arith, u.0, s, ap (λ (y : ℕ × Role). y.0) j)
    above (x ∷ es) u (inr j) s = above es u.1 j s

absent : (t : Table Role) (m : ℕ) → ((r : Role) → Has t (m, r) → ⊥) → at t m ≡ None
absent [] m h = refl
absent (e ∷ t) m h = ap (λ (b : Bool). cond b (Some e.1) (at t m)) (ties m e.0 ∙ apart m e.0 (λ s. h e.1 (inl (ap (λ (n : ℕ). (n, e.1)) (sym s))))) ∙ absent t m (λ r i. h r (inr i))

-- ---- both

listed : (w : World) (ms : List Member) (m : ℕ) → Each (Roles w) ms → contains (ids_of ms) m ≡ true → Has (map pair ms) (m, (w.facts m).role)
listed w [] m h e = differ e refl
listed w (x ∷ ms) m h e = go (x.id == m) refl e (listed w ms m h.1)
  where
    go : (b : Bool) → (x.id == m) ≡ b → (b || contains (ids_of ms) m) ≡ true → (contains (ids_of ms) m ≡ true → Has (map pair ms) (m, (w.facts m).role)) → Has (map pair (x ∷ ms)) (m, (w.facts m).role)
    go true s f rest = inl (ap (λ (r : Role). (x.id, r)) h.0 ∙ ap (λ (n : ℕ). (n, (w.facts n).role)) (num_same x.id m s))
    go false s f rest = inr (rest f)

unlisted : (ms : List Member) (m : ℕ) (r : Role) → Has (map pair ms) (m, r) → contains (ids_of ms) m ≡ true
unlisted [] m r h = absurd h
unlisted (x ∷ ms) m r (inl e) = ap (λ (b : Bool). b || contains (ids_of ms) m) (equal x.id m (ap (λ (y : ℕ × Role). y.0) e))
unlisted (x ∷ ms) m r (inr h) = later (x.id == m) (unlisted ms m r h)
  where
    later : (b : Bool) → contains (ids_of ms) m ≡ true → (b || contains (ids_of ms) m) ≡ true
    later true e = refl
    later false e = e

pub roster_of : (w : World) (gs : List ℕ) → DifferBy (λ n. n) gs → Roster gs (as_members w gs) w
unfolding table_of
roster_of w gs d = record {
  table = table_of set;
  rises = rises;
  list = table_list set;
  here = λ m e. found (table_of set) m (w.facts m).role rises (onto_has (map pair set) [] (m, (w.facts m).role) (inl (listed w set m (roles_are w gs) (members_are w gs m ∙ e))));
  others = λ m e. absent (table_of set) m (λ r h. differ (unlisted set m r (just (has_onto (map pair set) [] (m, r) h))) (members_are w gs m ∙ e));
}
  where
    set : List Member
    set = as_members w gs

    rises : RisesByNumber (table_of set)
    rises = table_rises set (subst (orders.Rises falling) (sym (ids_are w gs)) (rises_in_order falling_order (λ n. n) gs d))

    just : {A : Type 0} → A ⊎ ⊥ → A
    just (inl a) = a
    just (inr b) = absurd b

-- ---- the greatest of a group

pub record Greatest (gs : List ℕ) : Type 0 where
  pub lead : ℕ
  pub here : has_node gs lead ≡ true
  pub most : (m : ℕ) → has_node gs m ≡ true → m ≤ lead

greater : (n : ℕ) (ns : List ℕ) → Greatest ns → Greatest (n ∷ ns)
greater n ns g = go (nat_le n g.lead) refl
  where
    at_most : nat_le n g.lead ≡ true → n ≤ g.lead
    at_most e = grind (arith, nat_tests)

    above : nat_le n g.lead ≡ false → g.lead ≤ n
    above e = grind (arith, nat_tests)

    later : (b : Bool) → has_node ns g.lead ≡ true → (b || has_node ns g.lead) ≡ true
    later true e = refl
    later false e = e

    go : (b : Bool) → nat_le n g.lead ≡ b → Greatest (n ∷ ns)
    go true e = record { lead = g.lead; here = later (n == g.lead) g.here; most = λ m h. one m (n == m) refl h }
      where
        one : (m : ℕ) (b : Bool) → (n == m) ≡ b → (b || has_node ns m) ≡ true → m ≤ g.lead
        one m true s h = omega (arith, num_same n m s, at_most e)
        one m false s h = g.most m h
    go false e = record { lead = n; here = ap (λ (b : Bool). b || has_node ns n) (equal n n refl); most = λ m h. one m (n == m) refl h }
      where
        one : (m : ℕ) (b : Bool) → (n == m) ≡ b → (b || has_node ns m) ≡ true → m ≤ n
        one m true s h = omega (arith, num_same n m s)
        one m false s h = omega (arith, g.most m h, above e)

pub greatest : (n : ℕ) (ns : List ℕ) → Greatest (n ∷ ns)
greatest n [] = record { lead = n; here = ap (λ (b : Bool). b || false) (equal n n refl); most = λ m e. one m (n == m) refl e }
  where
    one : (m : ℕ) (b : Bool) → (n == m) ≡ b → (b || false) ≡ true → m ≤ n
    one m true s e = omega (arith, num_same n m s)
    one m false s e = differ e refl
greatest n (x ∷ ns) = greater n (x ∷ ns) (greatest x ns)

-- ---- its list can be sent

racks : (w : World) (ms : List Member) → ((n : ℕ) → FitsRack n (w.facts n).role) → Each (Roles w) ms → MembersAs FitsRack ms
racks w [] fit h = tt
racks w (m ∷ ms) fit h = (subst (λ (r : Role). FitsRack m.id r) (sym h.0) (fit m.id), racks w ms fit h.1)

ids_fit : (ms : List Member) → ((n : ℕ) → contains (ids_of ms) n ≡ true → IsId n) → All (λ (m : Member). IsId m.id) ms
ids_fit [] h = all_none (λ (m : Member). IsId m.id)
ids_fit (m ∷ ms) h = all_cons (λ (m : Member). IsId m.id) m ms (h m.id (ap (λ (b : Bool). b || contains (ids_of ms) m.id) (equal m.id m.id refl))) (ids_fit ms (λ n e. h n (later (m.id == n) n e)))
  where
    later : (b : Bool) (n : ℕ) → contains (ids_of ms) n ≡ true → (b || contains (ids_of ms) n) ≡ true
    later true n e = refl
    later false n e = e

pub roll_of : (w : World) (gs ns : List ℕ) (g : Greatest gs) → DifferBy (λ n. n) gs → length ns ≤ 16 → ((m : ℕ) → has_node gs m ≡ true → IsOneOf ns m) → ((m : ℕ) → has_node gs m ≡ true → IsId m) → ((n : ℕ) → FitsRack n (w.facts n).role)
    → Roll gs g.lead (as_members w gs)
roll_of w gs ns g d few one id fit = record {
  ids = members_are w gs;
  lead = g.here;
  greatest = g.most;
  fit = members_proper ns g.lead set few good (all_members (IsOneOf ns) set (λ n e. one n (sym (members_are w gs n) ∙ sym (member_listed set n) ∙ e))) (racks w set fit (roles_are w gs));
  each = id;
}
  where
    set : List Member
    set = as_members w gs

    good : GoodList g.lead set
    good = record {
      led = member_listed set g.lead ∙ members_are w gs g.lead ∙ g.here;
      fit = ids_fit set (λ n e. id n (sym (members_are w gs n) ∙ e));
      falls = ids_fall w gs d;
    }
