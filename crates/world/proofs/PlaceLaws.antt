-- The list of a partition over members that stand in another order.
use Rattle.std.proofs.Common.{◌≡◌, ◌==◌, ◌&&◌, ◌<◌, ℕ, Bool, true, false, not, List, [], ◌∷◌, length, map, get_or, cond, Some, inl, inr, refl, sym, ap, subst, ◌∙◌, arith}
use Rattle.std.specs.Prelude.{All, Contains, nat_lt, unwrap_or, find}
use Rattle.std.specs.List.{list_any}
use Rattle.std.specs.Option.{option_map}
use Rattle.std.proofs.lemmas.Bool.Decides.{nat_tests}
use Rattle.std.proofs.lemmas.List.Kept.{AllPairs-cons}
use Rattle.cluster_types.specs.declared.member.Member.{Member}
use Rattle.cluster_types.specs.declared.member.Role.{Role}
use Rattle.cluster_types.specs.Distinct.{AreDistinct, IsDescending}
use Rattle.cluster_types.specs.Members.{ids_of, plain_role, role_of}
use Rattle.partition_lists.specs.Hashes.{place}
use Rattle.partition_lists.specs.Lists.{in_order, list}
use Rattle.partition_lists.specs.Ranks.{is_ahead_in_rack, is_repeat, rank_of}
use Rattle.partition_lists.proofs.InOrderLaws.{DifferBy, Has, IsStrictOrder, Rises, any_has, each_has, has_any, has_at, has_in_order, has_map, in_order_has, map_has, rises_in_order, same_rising}
use Rattle.partition_lists.proofs.ListLaws.{list_contains, list_is, map_same, ranks_differ}
use Rattle.partition_lists.proofs.RankLaws.{rank_order}
use Rattle.journal_lines.specs.declared.line.Line.TheVariants as line
use Rattle.node_rules.specs.Shows.{with_roles}
use Rattle.cluster_rules.specs.DueEvents.{due_place}
use Rattle.cluster_rules.specs.Opening.{declared_nodes}
use Rattle.cluster_rules.specs.World.{World, members_now}
use Rattle.world.specs.Steps.{RunSoFar, standing}
use Rattle.world.proofs.KnownLaws.{has_there, same_nodes}
use Rattle.world.proofs.OrderLaws.{differ, distinct_in_order, falling_order}

-- ---- lists with the same items

-- a test that an item of one passes, an item of the other passes
same_any : {A : Type 0} (test : A → Bool) (xs ys : List A) → ((z : A) → Has xs z → Has ys z) → ((z : A) → Has ys z → Has xs z) → list_any test xs ≡ list_any test ys
same_any test xs ys there back = go (list_any test xs) (list_any test ys) refl refl
  where
    go : (a b : Bool) → list_any test xs ≡ a → list_any test ys ≡ b → list_any test xs ≡ list_any test ys
    go true b h k = let passes = any_has test xs h in h ∙ sym (has_any test ys passes.0 (there passes.0 passes.1) passes.2)
    go false true h k = let passes = any_has test ys k in has_any test xs passes.0 (back passes.0 passes.1) passes.2 ∙ sym k
    go false false h k = h ∙ sym k

-- and so they have the same images
same_images : {A K : Type 0} (f g : A → K) (xs ys : List A) → ((x : A) → f x ≡ g x) → ((z : A) → Has xs z → Has ys z) → (z : K) → Has (map f xs) z → Has (map g ys) z
same_images f g xs ys same there z found =
    let from = map_has f xs z found in subst (λ w. Has (map g ys) w) (sym (same from.0) ∙ from.2) (has_map g ys from.0 (there from.0 from.1))

-- which in order are the same list
same_in_order : {A K : Type 0} {is_below : K → K → Bool} → IsStrictOrder is_below → (key : K → ℕ) (f g : A → K) (xs ys : List A) → DifferBy key (map f xs) → DifferBy key (map g ys)
    → ((x : A) → f x ≡ g x) → ((z : A) → Has xs z → Has ys z) → ((z : A) → Has ys z → Has xs z) → map key (in_order is_below (map f xs)) ≡ map key (in_order is_below (map g ys))
same_in_order {A} {K} {is_below} o key f g xs ys p q same there back =
    ap (map key)
    (same_rising o (in_order is_below (map f xs)) (in_order is_below (map g ys)) (rises_in_order o key (map f xs) p) (rises_in_order o key (map g ys) q)
    (λ z found. has_in_order is_below (map g ys) z (same_images f g xs ys same there z (in_order_has is_below (map f xs) z found)))
    (λ z found. has_in_order is_below (map f xs) z (same_images g f ys xs (λ x. sym (same x)) back z (in_order_has is_below (map g ys) z found))))

-- ---- the list of the partition

same_repeat : (ms ns : List Member) (p : ℕ) (m : Member) → ((z : Member) → Has ms z → Has ns z) → ((z : Member) → Has ns z → Has ms z) → is_repeat ms p m ≡ is_repeat ns p m
same_repeat ms ns p m there back = ap (λ b. not m.role.quiesced && (not (m.role.rack == 0) && b)) (same_any (λ first. is_ahead_in_rack p first m) ms ns there back)

same_list : (ms ns : List Member) (p : ℕ) → AreDistinct (ids_of ms) → AreDistinct (ids_of ns) → ((z : Member) → Has ms z → Has ns z) → ((z : Member) → Has ns z → Has ms z) → list ms p ≡ list ns p
same_list ms ns p d e there back =
    list_is ms p
    ∙ same_in_order rank_order (λ r. r.id) (rank_of ms p) (rank_of ns p) ms ns (ranks_differ ms p d) (ranks_differ ns p e)
    (λ m i. record { quiesced = m.role.quiesced; repeats_rack = same_repeat ms ns p m there back i; place = place m.id p; id = m.id })
    there back
    ∙ sym (list_is ns p)

-- ---- nodes with the roles that they have

abbrev with_role : (ℕ → Role) → ℕ → Member
with_role role n = record { id = n; role = role n }

ids_with_roles : (role : ℕ → Role) (ids : List ℕ) → ids_of (map (with_role role) ids) ≡ ids
ids_with_roles role [] = refl
ids_with_roles role (n ∷ ids) = ap (λ (ns : List ℕ). n ∷ ns) (ids_with_roles role ids)

-- the role of one of them is found
role_found : (role : ℕ → Role) (ids : List ℕ) (n : ℕ) → Has ids n → role_of (map (with_role role) ids) n ≡ Some (role n)
role_found role [] n h = absurd h
role_found role (m ∷ ids) n h = go (m == n) refl h (role_found role ids n)
  where
    go : (b : Bool) → (m == n) ≡ b → Has (m ∷ ids) n → (Has ids n → role_of (map (with_role role) ids) n ≡ Some (role n)) → option_map (λ (x : Member). x.role) (cond b (Some (with_role role m)) (find (λ (x : Member). x.id == n) (map (with_role role) ids))) ≡ Some (role n)
    go true is found rest = let same : m ≡ n = grind (arith, nat_tests, is) in ap (λ k. Some (role k)) same
    go false is found rest = elim found [
      | inl same ↦ (let wrong : (m == n) ≡ true = grind (arith, nat_tests, same) in let clash : false ≡ true = sym is ∙ wrong in cc)
      | inr later ↦ rest later
    ]

-- the nodes of a list with those roles
roles_found : (role : ℕ → Role) (ids ns : List ℕ) → ((n : ℕ) → Has ns n → Has ids n)
    → with_roles (map (with_role role) ids) ns ≡ map (with_role role) ns
roles_found role ids ns known =
    map_same (λ n. record { id = n; role = unwrap_or (role_of (map (with_role role) ids) n) plain_role }) (with_role role) ns
    (λ n found i. record { id = n; role = unwrap_or (role_found role ids n (known n found) i) plain_role })

listed : (role : ℕ → Role) (ids : List ℕ) (p n : ℕ) → Has (list (map (with_role role) ids) p) n → Has ids n
listed role ids p n h =
    let ms = map (with_role role) ids in
    let there : Contains (ids_of ms) n = (list_contains ms p n).0 (has_there (list ms p) n h) in
    subst (λ (xs : List ℕ). Has xs n) (ids_with_roles role ids) (subst (λ m. Has (ids_of ms) m) there.2 (has_at (ids_of ms) there.0 n there.1))

-- in which order the members stand makes no difference to the list and to the roles in it
pub same_placed : (role : ℕ → Role) (ids ns : List ℕ) (p : ℕ) → AreDistinct ids → AreDistinct ns → ((n : ℕ) → Has ids n → Has ns n) → ((n : ℕ) → Has ns n → Has ids n)
    → with_roles (map (with_role role) ids) (list (map (with_role role) ids) p) ≡ with_roles (map (with_role role) ns) (list (map (with_role role) ns) p)
same_placed role ids ns p d e there back =
    let these = map (with_role role) ids in
    let those = map (with_role role) ns in
    roles_found role ids (list these p) (listed role ids p)
    ∙ ap (map (with_role role))
    (same_list these those p (subst AreDistinct (sym (ids_with_roles role ids)) d) (subst AreDistinct (sym (ids_with_roles role ns)) e)
    (same_images (with_role role) (with_role role) ids ns (λ n. refl) there) (same_images (with_role role) (with_role role) ns ids (λ n. refl) back))
    ∙ sym (roles_found role ns (list those p) (listed role ns p))

-- ---- ids in falling order

falls : (xs : List ℕ) → Rises (λ m n. nat_lt n m) xs → IsDescending xs
falls [] h = record { falls = λ i j d lower within. absurd (omega (arith, within)) }
falls (x ∷ xs) h = record { falls = AllPairs-cons (λ a b. b < a) x xs below (falls xs h.1).falls }
  where
    below : (k : ℕ) (d : ℕ) → k < length xs → get_or xs k d < x
    below k d within = let test = each_has (λ y. nat_lt y x ≡ true) xs (get_or xs k d) h.0 (has_at xs k d within) in grind (arith, nat_tests, test)

-- ids that were put in rising order and then in falling order
abbrev fallen : List ℕ → List ℕ
fallen ids = in_order (λ m n. nat_lt n m) (in_order nat_lt ids)

fallen_has : (ids : List ℕ) (n : ℕ) → Has (fallen ids) n → Has ids n
fallen_has ids n h = in_order_has nat_lt ids n (in_order_has (λ m n. nat_lt n m) (in_order nat_lt ids) n h)

has_fallen : (ids : List ℕ) (n : ℕ) → Has ids n → Has (fallen ids) n
has_fallen ids n h = has_in_order (λ m n. nat_lt n m) (in_order nat_lt ids) n (has_in_order nat_lt ids n h)

pub fallen_known : (ids down : List ℕ) → down ≡ fallen ids → All (Contains ids) down
fallen_known ids down is = λ k d within. has_there ids (get_or down k d) (fallen_has ids (get_or down k d) (subst (λ (xs : List ℕ). Has xs (get_or down k d)) is (has_at down k d within)))

pub members_fall : (w : World) (ids down : List ℕ) (ms : List Member) → AreDistinct ids → down ≡ fallen ids → ms ≡ members_now w down → IsDescending (ids_of ms)
members_fall w ids down ms distinct is made =
    subst (λ (xs : List Member). IsDescending (ids_of xs)) (sym made)
    (subst IsDescending (sym (ids_with_roles (λ n. (w.facts n).role) down))
    (subst IsDescending (sym is) (falls (fallen ids) (rises_in_order falling_order (λ (n : ℕ). n) (in_order nat_lt ids) (differ (in_order nat_lt ids) (distinct_in_order nat_lt ids distinct))))))

-- ---- the line

pub place_due : (r : RunSoFar) (p : ℕ) (down : List ℕ) (ms placed : List Member) → AreDistinct (declared_nodes r.header) → down ≡ fallen (declared_nodes r.header) → ms ≡ members_now (standing r) down → placed ≡ with_roles ms (list ms p)
    → line.Place p placed ∷ [] ≡ due_place (standing r) p
place_due r p down ms placed distinct is made told =
    let ids = declared_nodes r.header in
    let w = standing r in
    ap (λ (xs : List Member). line.Place p xs ∷ [])
    (told
    ∙ ap (λ (xs : List Member). with_roles xs (list xs p)) (made ∙ ap (members_now w) is)
    ∙ same_placed (λ n. (w.facts n).role) (fallen ids) ids p (distinct_in_order (λ m n. nat_lt n m) (in_order nat_lt ids) (distinct_in_order nat_lt ids distinct)) distinct (fallen_has ids) (has_fallen ids)
    ∙ ap (λ (ns : List ℕ). with_roles (members_now w ns) (list (members_now w ns) p)) (sym (same_nodes r)))
