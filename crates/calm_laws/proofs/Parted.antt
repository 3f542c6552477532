-- The up nodes of a group of a divided network: who they are, whom they reach, and who is away.
use Rattle.std.proofs.Common.{◌≡◌, inl, inr, ℕ, ◌<◌, ◌==◌, ◌&&◌, not, nat_lt, Bool, true, false, List, [], ◌∷◌, ◌++◌, map, filter, refl, sym, ap, subst, ◌∙◌, arith}
use Rattle.std.specs.List.{concat, list_all}
use Rattle.std.proofs.lemmas.Bool.Decides.{nat_tests}
use Rattle.cluster_types.specs.Distinct.{AreDistinct, without}
use Rattle.partition_lists.proofs.InOrderLaws.{DifferBy, Each, Has, differ_distinct, differ_filter, differ_in_order, distinct_differ, filter_has, has_filter, has_in_order, in_order_has}
use Rattle.journal_readings.specs.Lines.{has_node}
use Rattle.cluster_rules.specs.Calm.{up_in}
use Rattle.cluster_rules.specs.Marks.{Begins, Mark, Writes}
use Rattle.cluster_rules.specs.Network.{are_apart}
use Rattle.cluster_rules.specs.Opening.{declared_nodes}
use Rattle.cluster_rules.specs.Steps.{Step, all_marks}
use Rattle.cluster_rules.specs.World.{World, is_up, opened, up_nodes}
use Rattle.cluster_rules.proofs.AllowedLaws.{nodes_stay}
use Rattle.cluster_laws.specs.Ground.{Ground}
use Rattle.cluster_laws.proofs.At.{differ}
use Rattle.cluster_laws.proofs.GroundLaws.{apart}
use Rattle.key_laws.proofs.Addressed.{and_left, and_right}
use Rattle.key_laws.proofs.Peopled.{peers_of}
use Rattle.run_laws.specs.Fronts.{Front, front_after, front_after_all, world_of}
use Rattle.run_laws.specs.LineOk.{Goes}
use Rattle.run_laws.specs.Taken.{first, ground_of}
use Rattle.run_laws.specs.Tied.{Among}
use Rattle.run_laws.proofs.CalmLines.{first_grouped}
use Rattle.run_laws.proofs.Named as named
use Rattle.run_laws.proofs.Places.{Grouped, grouped_begun, grouped_line}
use Rattle.run_laws.proofs.Premised.{taken_walks}
use Rattle.node_rules.specs.Messages.{client}
use Rattle.calm_laws.specs.Flows.{Base, Once}
use Rattle.calm_laws.specs.Group.{Away, Group}
use Rattle.calm_laws.specs.Onward.{MayTake}
use Rattle.calm_laws.specs.Schedules.{Home}
use Rattle.calm_laws.proofs.Divided.{Place, asunder, place, together}
use Rattle.calm_laws.proofs.Fronts.{facts_are, known, world_is}
use Rattle.calm_laws.proofs.Onward.{taken_before}
use Rattle.calm_laws.proofs.Premises.{declared_up, id_of}
use Rattle.calm_laws.proofs.Rosters.{has_number, number_has}
use Rattle.calm_laws.proofs.Walks.{named_of, order_of}

-- ---- lists in which no number stands twice

same_list : (ns : List ℕ) → map (λ (n : ℕ). n) ns ≡ ns
same_list [] = refl
same_list (n ∷ ns) = ap (λ (ms : List ℕ). n ∷ ms) (same_list ns)

differs : (ns : List ℕ) → AreDistinct ns → DifferBy (λ n. n) ns
differs ns d = distinct_differ (λ n. n) ns (subst AreDistinct (sym (same_list ns)) d)

pub once_of : (ns : List ℕ) → DifferBy (λ n. n) ns → Once ns
once_of ns d = named.once ns (subst AreDistinct (same_list ns) (differ_distinct (λ n. n) ns d))

each_front : {K : Type 0} (P : K → Type 0) (xs ys : List K) → Each P (xs ++ ys) → Each P xs
each_front P [] ys h = tt
each_front P (x ∷ xs) ys h = (h.0, each_front P xs ys h.1)

differ_front : (xs ys : List ℕ) → DifferBy (λ n. n) (xs ++ ys) → DifferBy (λ n. n) xs
differ_front [] ys h = tt
differ_front (x ∷ xs) ys h = (each_front (λ (y : ℕ). y ≡ x → ⊥) xs ys h.0, differ_front xs ys h.1)

differ_behind : (xs ys : List ℕ) → DifferBy (λ n. n) (xs ++ ys) → DifferBy (λ n. n) ys
differ_behind [] ys h = h
differ_behind (x ∷ xs) ys h = differ_behind xs ys h.1

differ_group : (gs : List (List ℕ)) (group : List ℕ) → Among gs group → DifferBy (λ n. n) (concat gs) → DifferBy (λ n. n) group
differ_group [] group h d = absurd h
differ_group (g ∷ gs) group (inl e) d = subst (λ (ns : List ℕ). DifferBy (λ n. n) ns) e (differ_front g (concat gs) d)
differ_group (g ∷ gs) group (inr h) d = differ_group gs group h (differ_behind g (concat gs) d)

all_node : (test : ℕ → Bool) (xs : List ℕ) (m : ℕ) → list_all test xs ≡ true → Has xs m → test m ≡ true
all_node test [] m e h = absurd h
all_node test (x ∷ xs) m e (inl i) = ap test (sym i) ∙ and_left (test x) (list_all test xs) e
all_node test (x ∷ xs) m e (inr h) = all_node test xs m (and_right (test x) (list_all test xs) e) h

has_among : (xs : List ℕ) (m : ℕ) → Has xs m → Among xs m
has_among [] m h = h
has_among (x ∷ xs) m (inl e) = inl e
has_among (x ∷ xs) m (inr h) = inr (has_among xs m h)

-- ---- groups name the declared nodes, and each of them

all_grouped : (G : Ground) (z : Front) (ms : List Mark) → Goes G z ms → Grouped (world_of z) → Grouped (world_of (front_after_all z ms))
all_grouped G z [] g h = h
all_grouped G z (Begins e ∷ ms) g h = all_grouped G (front_after z (Begins e)) ms g
    (grouped_begun z e h)
all_grouped G z (Writes l ∷ ms) g h = all_grouped G (front_after z (Writes l)) ms g.2 (grouped_line G z l g.1 h)

grouped : {w : World} → MayTake w [] → Grouped w
grouped may = subst Grouped (world_is may) (all_grouped (ground_of may.header may.before) (first may.header) (all_marks may.before) (taken_walks may.header may.before (taken_before may)).goes (first_grouped may.header))

pub nodes_are : {w : World} {more : List Step} (may : MayTake w more) → w.nodes ≡ declared_nodes may.header
nodes_are may = ap (λ (u : World). u.nodes) (sym may.leads) ∙ nodes_stay (all_marks may.before) (opened may.header)

-- ---- one world

module _ (w : World) (may : MayTake w []) where
  -- a node is up where it is one of the up nodes, and then it is declared
  pub node_up : (m : ℕ) → has_node (up_nodes w) m ≡ true → is_up w m ≡ true
  node_up m e = (filter_has (is_up w) w.nodes m (in_order_has nat_lt (filter (is_up w) w.nodes) m (has_number (up_nodes w) m e))).1

  up_declared : (m : ℕ) → is_up w m ≡ true → has_node w.nodes m ≡ true
  up_declared m e = subst (λ (ns : List ℕ). has_node ns m ≡ true) (sym (nodes_are may)) (declared_up may m e)

  pub up_node : (m : ℕ) → is_up w m ≡ true → has_node (up_nodes w) m ≡ true
  up_node m e = number_has (up_nodes w) m (has_in_order nat_lt (filter (is_up w) w.nodes) m (has_filter (is_up w) w.nodes m (has_number w.nodes m (up_declared m e)) e))

  pub base_there : Base (up_nodes w) w
  base_there = record {
    named = named_of may;
    in_order = order_of may;
    once = once_of (up_nodes w) (differ_in_order nat_lt (λ n. n) (filter (is_up w) w.nodes) (differ_filter (λ n. n) (is_up w) w.nodes (differs w.nodes (subst AreDistinct (sym (nodes_are may)) (taken_before may).declared.distinct))));
    ups = refl;
    up = node_up;
  }

  -- nobody else is up
  pub not_up : (m : ℕ) → has_node (up_nodes w) m ≡ false → is_up w m ≡ false
  not_up m e = go (is_up w m) refl
    where
      go : (b : Bool) → is_up w m ≡ b → b ≡ false
      go true i = differ (up_node m i) e
      go false i = refl

  grouped_each : (m : ℕ) → has_node w.nodes m ≡ true → has_node (concat w.network.groups) m ≡ true
  grouped_each m e = all_node (has_node (concat w.network.groups)) w.nodes m (and_right (list_all (has_node w.nodes) (concat w.network.groups)) _ (grouped may)) (has_number w.nodes m e)

  -- ---- a group

  pub in_group : (group : List ℕ) (m : ℕ) → has_node (up_in w group) m ≡ true → (has_node group m ≡ true) × (is_up w m ≡ true)
  in_group group m e = let h = filter_has (is_up w) group m (has_number (up_in w group) m e) in (number_has group m h.0, h.1)

  to_group : (group : List ℕ) (m : ℕ) → has_node group m ≡ true → is_up w m ≡ true → has_node (up_in w group) m ≡ true
  to_group group m e up = number_has (up_in w group) m (has_filter (is_up w) group m (has_number group m e) up)

  -- each up node is in one
  pub home : (a : ℕ) → has_node (up_nodes w) a ≡ true → Home w a
  home a e =
      let up : is_up w a ≡ true = node_up a e in
      let p : Place w.network.groups a = place w.network.groups a (grouped_each a (up_declared a up)) in
      record { group = p.group; among = p.among; here = to_group p.group a p.here up }

  module _ (distinct : AreDistinct (concat w.network.groups)) (group : List ℕ) (among : Among w.network.groups group) where
    -- no node stands twice among them
    pub group_differ : DifferBy (λ n. n) (up_in w group)
    group_differ = differ_filter (λ n. n) (is_up w) group (differ_group w.network.groups group among (differs (concat w.network.groups) distinct))

    once : Once (concat w.network.groups)
    once = named.once (concat w.network.groups) distinct

    not_client : (m : ℕ) → is_up w m ≡ true → (m == client) ≡ false
    not_client m up = positive m (id_of may m (declared_up may m up)).positive
      where
        positive : (m : ℕ) → 0 < m → (m == 0) ≡ false
        positive m h = grind (arith, nat_tests)

    peer : (a m : ℕ) → is_up w m ≡ true → (a ≡ m → ⊥) → Among (w.facts a).peers m
    peer a m up d = subst (λ (ns : List ℕ). Among ns m) (sym (ap (λ f. f.peers) (sym (facts_are may a)) ∙ ((known may).peopled.nodes a).peers))
        (has_among (peers_of (declared_nodes may.header) a) m
        (has_in_order nat_lt (without (declared_nodes may.header) a) m
        (has_filter (λ n. not (n == a)) (declared_nodes may.header) m (has_number (declared_nodes may.header) m (declared_up may m up)) (ap not (apart m a (λ s. d (sym s)))))))

    apart_from : (a m : ℕ) → (a == client) ≡ false → (m == client) ≡ false → Bool → Type 0
    apart_from a m x y b = are_apart w.network a m ≡ b

    pub group_there : Group (up_nodes w) (up_in w group) w
    group_there = record {
      up = λ m e. up_node m (in_group group m e).1;
      near = λ a m e f d. record {
        sender = up_node a (in_group group a e).1;
        receiver = up_node m (in_group group m f).1;
        together = near (a == client) (m == client) _ (together w.network.groups group a m once among (in_group group a e).0 (in_group group m f).0);
        node = not_client m (in_group group m f).1;
        peer = peer a m (in_group group m f).1 d;
      };
      away = λ a m e f. away a m (is_up w a) refl e f;
    }
      where
        near : (b c d : Bool) → d ≡ false → (not b && (not c && d)) ≡ false
        near b c d h = grind arith

        far : (b c d : Bool) → b ≡ false → c ≡ false → d ≡ true → (not b && (not c && d)) ≡ true
        far b c d h i j = grind arith

        away : (a m : ℕ) (b : Bool) → is_up w a ≡ b → has_node (up_in w group) a ≡ false → has_node (up_in w group) m ≡ true → Away (up_nodes w) w a m
        away a m false up e f = inr (record { out = out (has_node (up_nodes w) a) refl; down = up })
          where
            out : (c : Bool) → has_node (up_nodes w) a ≡ c → c ≡ false
            out true i = differ (node_up a i) up
            out false i = refl
        away a m true up e f =
            inl (far (a == client) (m == client) _ (not_client a up) (not_client m (in_group group m f).1)
            (asunder w.network.groups group a m once among (grouped_each a (up_declared a up)) (out (has_node group a) refl) (in_group group m f).0))
          where
            out : (c : Bool) → has_node group a ≡ c → c ≡ false
            out true i = differ (to_group group a i up) e
            out false i = refl
