-- At the end of the timetable the world is calm.
use Rattle.std.proofs.Common.{◌≡◌, ℕ, zero, suc, ◌+◌, ◌≤◌, ◌==◌, ◌||◌, ◌&&◌, nat_lt, Bool, true, false, List, [], ◌∷◌, map, Option, Some, refl, sym, ap, subst, ◌∙◌, ◌⊎◌, inl, inr, arith}
use Rattle.std.specs.Prelude.{filter}
use Rattle.std.specs.List.{list_all}
use Rattle.cluster_types.specs.declared.cluster_key.ClusterKey.{ClusterKey}
use Rattle.cluster_types.specs.declared.member.Member.{Member}
use Rattle.cluster_types.specs.Partitions.{partition_count}
use Rattle.cluster_types.specs.MembersEqual.{same_members}
use Rattle.partition_lists.specs.Lists.{in_order}
use Rattle.partition_lists.proofs.InOrderLaws.{equal}
use Rattle.node_rules.specs.Copies.{is_nil}
use Rattle.node_rules.specs.Exchange.{View, is_view, exchange_key, members_of}
use Rattle.node_rules.specs.Facts.{Facts, has_exchanged_in, view_key}
use Rattle.node_rules.specs.Standing.{has_nothing_to_learn_or_drop, is_at_rest_of, knows_all_settled}
use Rattle.node_rules.specs.Transactions.{Transaction}
use Rattle.cluster_rules.specs.Calm.{as_members, is_calm_of, is_group_at_rest, share_view, up_in}
use Rattle.journal_readings.specs.Lines.{has_node}
use Rattle.cluster_rules.specs.World.{World, is_up}
use Rattle.cluster_laws.proofs.At.{differ}
use Rattle.key_laws.proofs.Order.{same_self}
use Rattle.run_laws.specs.Tied.{Among}
use Rattle.calm_laws.specs.Exchanges.{Exchanged, RowsThere}
use Rattle.calm_laws.specs.Flows.{Rounded, inbox, world_at}
use Rattle.calm_laws.specs.Ground.{Agreed}
use Rattle.calm_laws.specs.Handing.{AtMostPending, LegibleRound, NothingOut}
use Rattle.calm_laws.specs.Schedules.{Home, Party, Schedule}
use Rattle.calm_laws.specs.Transacting.{NoneOpen}
use Rattle.calm_laws.specs.Turns.{Ready}
use Rattle.calm_laws.proofs.Agreed.{agreed, ready_at}
use Rattle.calm_laws.proofs.Company.{KindsIn, down_inbox}
use Rattle.calm_laws.proofs.Emptied.{emptied, exchanged_on, none_open_on, out_on, rows_on}
use Rattle.calm_laws.proofs.Hearing.{round_frame}
use Rattle.calm_laws.proofs.Rested.{RestRound, owes_end, settled_end, silent_third}
use Rattle.calm_laws.proofs.Resting.{undisturbed}
use Rattle.calm_laws.proofs.Sequence.{at_start, base_after, next_round, role_stays}
use Rattle.calm_laws.proofs.Settled.{group_settles}
use Rattle.calm_laws.proofs.Silence.{silent_end}
use Rattle.calm_laws.proofs.Steadying.{same_itself, steady_rests}

-- ---- lists

all_true : (test : ℕ → Bool) (xs : List ℕ) → ((m : ℕ) → has_node xs m ≡ true → test m ≡ true) → list_all test xs ≡ true
all_true test [] h = refl
all_true test (x ∷ xs) h =
    ap (λ (b : Bool). b && list_all test xs) (h x (ap (λ (b : Bool). b || has_node xs x) (equal x x refl)))
    ∙ all_true test xs (λ m e. h m (behind (x == m) (has_node xs m) e))
  where
    behind : (b c : Bool) → c ≡ true → (b || c) ≡ true
    behind true c e = refl
    behind false c e = e

each_true : (test : List ℕ → Bool) (xs : List (List ℕ)) → ((x : List ℕ) → Among xs x → test x ≡ true) → list_all test xs ≡ true
each_true test [] h = refl
each_true test (x ∷ xs) h = ap (λ (b : Bool). b && list_all test xs) (h x (inl refl)) ∙ each_true test xs (λ y i. h y (inr i))

-- ---- groups at rest

-- the nodes are in one view of these members, and at rest in it
pub record AtRest (n : ℕ) (k : ClusterKey) (set : List Member) (f : Facts) : Type 0 where
  pub view : f.exchange.view ≡ Some (record { key = k; members = set })
  pub over : f.exchange.exchanged ≡ true
  pub settled : knows_all_settled f n 0 ≡ true
  pub owes : has_nothing_to_learn_or_drop f n 0 ≡ true
  pub closed : f.transactions.running ≡ []

rests : (n : ℕ) (k : ClusterKey) (set : List Member) (f : Facts) → AtRest n k set f → is_at_rest_of n f ≡ true
rests n k set f h =
    ap (λ (b : Bool). b && (knows_all_settled f n 0 && (has_nothing_to_learn_or_drop f n 0 && is_nil f.transactions.running))) h.over
    ∙ ap (λ (b : Bool). b && (has_nothing_to_learn_or_drop f n 0 && is_nil f.transactions.running)) h.settled
    ∙ ap (λ (b : Bool). b && is_nil f.transactions.running) h.owes
    ∙ ap (λ (ts : List Transaction). is_nil ts) h.closed

shares : (n : ℕ) (k : ClusterKey) (v : World) (gs : List ℕ) → ((m : ℕ) → has_node gs m ≡ true → AtRest n k (as_members v gs) (v.facts m)) → share_view v gs ≡ true
shares n k v [] h = refl
shares n k v (x ∷ xs) h = all_true (λ (m : ℕ). has_exchanged_in (view_key (v.facts x)) (as_members v (x ∷ xs)) (v.facts m)) (x ∷ xs) one
  where
    set : List Member
    set = as_members v (x ∷ xs)

    here : has_node (x ∷ xs) x ≡ true
    here = ap (λ (b : Bool). b || has_node xs x) (equal x x refl)

    key : view_key (v.facts x) ≡ k
    key = ap (λ (o : Option View). exchange_key o) (h x here).view

    one : (m : ℕ) → has_node (x ∷ xs) m ≡ true → has_exchanged_in (view_key (v.facts x)) (as_members v (x ∷ xs)) (v.facts m) ≡ true
    one m i =
        ap (λ (q : ClusterKey). has_exchanged_in q (as_members v (x ∷ xs)) (v.facts m)) key
        ∙ ap (λ (b : Bool). b && (is_view (v.facts m).exchange.view k && same_members (members_of (v.facts m).exchange.view) (as_members v (x ∷ xs)))) (h m i).over
        ∙ ap (λ (o : Option View). is_view o k && same_members (members_of o) (as_members v (x ∷ xs))) (h m i).view
        ∙ ap (λ (b : Bool). b && same_members (as_members v (x ∷ xs)) (as_members v (x ∷ xs))) (same_self k)
        ∙ same_itself (as_members v (x ∷ xs))

group_rests : (n : ℕ) (k : ClusterKey) (v : World) (group gs : List ℕ) → up_in v group ≡ gs → ((m : ℕ) → has_node gs m ≡ true → AtRest n k (as_members v gs) (v.facts m)) → is_group_at_rest n v group ≡ true
group_rests n k v group gs e h =
    ap (λ (xs : List ℕ). share_view v xs && list_all (λ (m : ℕ). is_at_rest_of n (v.facts m)) xs) e
    ∙ ap (λ (b : Bool). b && list_all (λ (m : ℕ). is_at_rest_of n (v.facts m)) gs) (shares n k v gs h)
    ∙ all_true (λ (m : ℕ). is_at_rest_of n (v.facts m)) gs (λ m i. rests n k (as_members v gs) (v.facts m) (h m i))

nobody_rests : (n : ℕ) (v : World) (group : List ℕ) → up_in v group ≡ [] → is_group_at_rest n v group ≡ true
nobody_rests n v group e = ap (λ (xs : List ℕ). share_view v xs && list_all (λ (m : ℕ). is_at_rest_of n (v.facts m)) xs) e

-- ---- a party at the end of the timetable

module _ (ns : List ℕ) (w : World) (most q : ℕ) (enough : 21 + q ≤ most) where
  module _ (group : List ℕ) (p : Party ns group w most q) where
    abbrev gs : List ℕ
    gs = up_in w group

    abbrev set : List Member
    set = as_members w (up_in w group)

    pub view : Agreed partition_count (up_in w group) p.lead (as_members w (up_in w group)) w most
    view = agreed partition_count ns (up_in w group) p.lead (as_members w (up_in w group)) w most p.ground (omega (arith, enough))

    silent : KindsIn gs [] (world_at partition_count w (suc (19 + q)))
    silent =
        let l : LegibleRound partition_count gs (world_at partition_count w (19 + q)) (world_at partition_count w (suc (19 + q))) = (p.provisions view).rounds (19 + q) (omega arith) (omega (arith, enough)) in
        let ready : Ready ns gs p.lead set (world_at partition_count w (19 + q)) = ready_at partition_count ns gs p.lead set w most p.ground (19 + q) (omega arith) (omega (arith, enough)) in
        silent_end partition_count ns gs (world_at partition_count w (19 + q)) (world_at partition_count w (suc (19 + q))) l.round
        (undisturbed partition_count ns gs p.lead set (world_at partition_count w (19 + q)) (world_at partition_count w (suc (19 + q))) l.round ready (steady_rests ns gs p.lead set view.key (world_at partition_count w (19 + q)) ready (view.steady (19 + q) (omega arith) (omega (arith, enough))))) l.legible

    weaker : AtMostPending (q + 3) gs (world_at partition_count w 17)
    weaker m here t i = lift (p.pending m here t i)
      where
        lift : {a : ℕ} → a ≤ q → a ≤ q + 3
        lift le = omega (arith, le)

    pub last_round : RestRound partition_count ns gs p.lead set view.key (world_at partition_count w (20 + q))
    last_round = record {
      ready = ready_at partition_count ns gs p.lead set w most p.ground (20 + q) (omega arith) (omega (arith, enough));
      steady = view.steady (20 + q) (omega arith) (omega (arith, enough));
      over = subst (λ (i : ℕ). Exchanged gs (world_at partition_count w i)) four (exchanged_on partition_count ns gs p.lead set w most p.ground view (p.provisions view) (q + 4) (omega (arith, enough)));
      rows = subst (λ (i : ℕ). RowsThere gs (world_at partition_count w i)) four (rows_on partition_count ns gs p.lead set w most p.ground view (p.provisions view) (q + 4) (omega (arith, enough)));
      closed = subst (λ (i : ℕ). NoneOpen gs (world_at partition_count w i)) four (none_open_on partition_count ns gs p.lead set w most p.ground view (p.provisions view) (q + 4) (omega (arith, enough)));
      out = subst (λ (i : ℕ). NothingOut gs (world_at partition_count w i)) three (out_on partition_count ns gs p.lead set w most p.ground view (p.provisions view) (q + 3) (omega (arith, enough)));
      empty = subst (λ (i : ℕ). AtMostPending 0 gs (world_at partition_count w i)) later (emptied partition_count ns gs p.lead set w most p.ground view (p.provisions view) (q + 3) (omega (arith, enough)) weaker);
      silent = subst (λ (i : ℕ). KindsIn gs [] (world_at partition_count w i)) one silent;
      settled = group_settles ns gs p.lead set w most p.ground view (p.provisions view) q (omega (arith, enough)) p.pending p.footing;
      learning = λ m here r lt. (p.footing.places (20 + q) (omega arith) (omega arith) m here r lt).2;
    }
      where
        four : 16 + (q + 4) ≡ 20 + q
        four = omega arith

        three : suc (16 + (q + 3)) ≡ 20 + q
        three = omega arith

        later : 17 + (q + 3) ≡ 20 + q
        later = omega arith

        one : suc (19 + q) ≡ 20 + q
        one = omega arith

    pub closed_end : NoneOpen gs (world_at partition_count w (suc (20 + q)))
    closed_end =
        subst (λ (i : ℕ). NoneOpen gs (world_at partition_count w i)) five (none_open_on partition_count ns gs p.lead set w most p.ground view (p.provisions view) (q + 5) (omega (arith, enough)))
      where
        five : 16 + (q + 5) ≡ suc (20 + q)
        five = omega arith

    pub over_end : Exchanged gs (world_at partition_count w (suc (20 + q)))
    over_end =
        subst (λ (i : ℕ). Exchanged gs (world_at partition_count w i)) five (exchanged_on partition_count ns gs p.lead set w most p.ground view (p.provisions view) (q + 5) (omega (arith, enough)))
      where
        five : 16 + (q + 5) ≡ suc (20 + q)
        five = omega arith

    pub rest_end : (r : Rounded partition_count (world_at partition_count w (20 + q)) (world_at partition_count w (suc (20 + q)))) → (m : ℕ) → has_node gs m ≡ true → AtRest partition_count view.key set ((world_at partition_count w (suc (20 + q))).facts m)
    rest_end r m here = record {
      view = (view.steady (suc (20 + q)) (omega arith) (omega (arith, enough))).views m here;
      over = over_end m here;
      settled = settled_end partition_count ns gs p.lead set view.key (world_at partition_count w (20 + q)) (world_at partition_count w (suc (20 + q))) r last_round m here;
      owes = owes_end partition_count ns gs p.lead set view.key (world_at partition_count w (20 + q)) (world_at partition_count w (suc (20 + q))) r last_round m here;
      closed = closed_end m here;
    }

  -- ---- the schedule

  module _ (s : Schedule ns w most q) where
    abbrev begins : World
    begins = world_at partition_count w (20 + q)

    abbrev ends : World
    ends = world_at partition_count w (suc (20 + q))

    round_on : (k : ℕ) → suc k ≤ most → Rounded partition_count (world_at partition_count w k) (world_at partition_count w (suc k))
    round_on k le = next_round partition_count ns w k (base_after partition_count ns w most s.plain k (omega (arith, le))) (s.plain.placed k (omega (arith, le)))

    last : Rounded partition_count (world_at partition_count w (20 + q)) (world_at partition_count w (suc (20 + q)))
    last = round_on (20 + q) (omega (arith, enough))

    ups_at : (k : ℕ) → k ≤ most → (m : ℕ) → is_up (world_at partition_count w k) m ≡ is_up w m
    ups_at zero le m = ap (λ (u : World). is_up u m) (at_start partition_count w)
    ups_at (suc k) le m = (round_frame partition_count (world_at partition_count w k) (world_at partition_count w (suc k)) (round_on k le)).ups m ∙ ups_at k (omega (arith, le)) m

    groups_at : (k : ℕ) → k ≤ most → (world_at partition_count w k).network.groups ≡ w.network.groups
    groups_at zero le = ap (λ (u : World). u.network.groups) (at_start partition_count w)
    groups_at (suc k) le = (round_frame partition_count (world_at partition_count w k) (world_at partition_count w (suc k)) (round_on k le)).groups ∙ groups_at k (omega (arith, le))

    ups_end : (m : ℕ) → is_up ends m ≡ is_up w m
    ups_end m = ups_at (suc (20 + q)) (omega (arith, enough)) m

    up_end : (group : List ℕ) → up_in ends group ≡ up_in w group
    up_end group =
        let test : is_up ends ≡ is_up w = λ i m. ups_end m i in
        ap (λ (t : ℕ → Bool). filter t group) test

    member : World → ℕ → Member
    member u m = record { id = m; role = (u.facts m).role }

    members_end : (gs : List ℕ) → as_members ends gs ≡ as_members w gs
    members_end gs =
        let now : (m : ℕ) → (ends.facts m).role ≡ (w.facts m).role = λ m. role_stays partition_count ns w most s.plain m (suc (20 + q)) (omega (arith, enough)) in
        ap (λ (f : ℕ → Member). in_order (λ (a : Member) (b : Member). nat_lt b.id a.id) (map f gs)) (λ i m. record { id = m; role = now m i })

    each_group : (group : List ℕ) → Among w.network.groups group → is_group_at_rest partition_count ends group ≡ true
    each_group group among = go (s.parties enough group among)
      where
        go : (up_in w group ≡ []) ⊎ Party ns group w most q → is_group_at_rest partition_count ends group ≡ true
        go (inl e) = nobody_rests partition_count ends group (up_end group ∙ e)
        go (inr p) =
            group_rests partition_count (view group p).key ends group (up_in w group) (up_end group)
            (λ m here. subst (λ (ms : List Member). AtRest partition_count (view group p).key ms (ends.facts m)) (sym (members_end (up_in w group))) (rest_end group p last m here))

    nobody_writes : (m : ℕ) → inbox last.third_end m ≡ []
    nobody_writes m = go (has_node ns m) refl
      where
        ups_third : is_up last.third_end m ≡ is_up w m
        ups_third = last.third.ups m ∙ last.second.ups m ∙ last.first.ups m ∙ last.ticks.ups m ∙ ups_at (20 + q) (omega (arith, enough)) m

        home : (h : Home w m) → (up_in w h.group ≡ []) ⊎ Party ns h.group w most q → inbox last.third_end m ≡ []
        home h (inl e) = differ h.here (ap (λ (xs : List ℕ). has_node xs m) e)
        home h (inr p) = silent_third partition_count ns (up_in w h.group) p.lead (as_members w (up_in w h.group)) (view h.group p).key begins ends last (last_round h.group p) m h.here

        go : (b : Bool) → has_node ns m ≡ b → inbox last.third_end m ≡ []
        go true e = home (s.homes m e) (s.parties enough (s.homes m e).group (s.homes m e).among)
        go false e = down_inbox last.third_end m (ups_third ∙ s.others m e)

    calm_suc : is_calm_of partition_count ends ≡ true
    calm_suc =
        ap (λ (b : Bool). b && is_nil ends.network.flying)
        (ap (λ (groups : List (List ℕ)). list_all (is_group_at_rest partition_count ends) groups) (groups_at (suc (20 + q)) (omega (arith, enough))) ∙ each_true (is_group_at_rest partition_count ends) w.network.groups each_group)
        ∙ ap (λ (xs : List ℕ). is_nil xs) (last.fourth.still nobody_writes)

    -- the world is calm then
    pub calm_then : is_calm_of partition_count (world_at partition_count w (21 + q)) ≡ true
    calm_then = subst (λ (i : ℕ). is_calm_of partition_count (world_at partition_count w i) ≡ true) one calm_suc
      where
        one : suc (20 + q) ≡ 21 + q
        one = omega arith
