-- Rounds that may be taken and lose no message are a ground of calm for each group of the network.
use Rattle.std.proofs.Common.{◌≡◌, ◌⊎◌, inl, inr, ℕ, ◌+◌, ◌-◌, zero, suc, ◌<◌, ◌≤◌, ◌==◌, ◌||◌, Bool, true, false, List, [], ◌∷◌, Some, refl, sym, ap, subst, arith}
use Rattle.std.specs.List.{concat}
use Rattle.cluster_types.specs.declared.member.Member.{Member}
use Rattle.cluster_types.specs.Distinct.{AreDistinct}
use Rattle.cluster_types.specs.Partitions.{partition_count}
use Rattle.cluster_types.specs.Members.{ids_of}
use Rattle.partition_lists.proofs.InOrderLaws.{differ_in_order, DifferBy, equal}
use Rattle.wire_messages.specs.Nodes.{IsId}
use Rattle.journal_lines.specs.declared.line.Line.{Line}
use Rattle.node_rules.specs.Facts.{Facts}
use Rattle.journal_readings.specs.Lines.{has_node}
use Rattle.cluster_rules.specs.Calm.{as_members, up_in}
use Rattle.cluster_rules.specs.CalmBound.{is_full_round}
use Rattle.cluster_rules.specs.Opening.{declared_nodes}
use Rattle.cluster_rules.specs.Steps.{rounds}
use Rattle.cluster_rules.specs.World.{World, is_up, up_nodes}
use Rattle.cluster_laws.specs.Ground as laid
use Rattle.key_laws.proofs.Peopled.{FitsRack}
use Rattle.run_laws.specs.Taken.{ground_of}
use Rattle.run_laws.specs.Tied.{Among}
use Rattle.calm_laws.specs.Flows.{Base, Once, Plain, world_at}
use Rattle.calm_laws.specs.Exchanges.{Exchanged}
use Rattle.calm_laws.specs.Footing.{Footing}
use Rattle.calm_laws.specs.Ground.{Agreed, Basis, Provisions}
use Rattle.calm_laws.specs.Handing.{AtMostPending, LegibleRound}
use Rattle.calm_laws.specs.Laws.{AreIds}
use Rattle.calm_laws.specs.Onward.{MayTake}
use Rattle.calm_laws.specs.Schedules.{Party, Schedule}
use Rattle.calm_laws.specs.Turns.{Roll}
use Rattle.calm_laws.proofs.Agreed.{agreed}
use Rattle.calm_laws.proofs.Emptied.{exchanged_on}
use Rattle.calm_laws.proofs.FewRounds.{round_left}
use Rattle.calm_laws.proofs.Footed.{acting_here, empty_here, pictured_at, places_there, settled_here, whole}
use Rattle.calm_laws.proofs.Fronts.{facts_are, known}
use Rattle.calm_laws.proofs.Hearing.{base_kept}
use Rattle.calm_laws.proofs.History.{Pictured}
use Rattle.calm_laws.proofs.Parted.{base_there, group_differ, group_there, home, in_group, node_up, not_up, up_node}
use Rattle.calm_laws.proofs.Premises.{asks_there, declared_up, id_of, lacking_there, lawful_there, not_itself, speaks_there}
use Rattle.calm_laws.proofs.Provided.{handing_there, held_there, rows_there, waiting_there}
use Rattle.calm_laws.proofs.Readable.{legible_round}
use Rattle.calm_laws.proofs.Rosters.{Greatest, falling, greatest, ids_are, members_are, roll_of, roster_of}
use Rattle.calm_laws.proofs.Shaped.{shaped, within_bit}
use Rattle.calm_laws.proofs.Sequence.{at_start, next_round, one_more}
use Rattle.calm_laws.proofs.Stretch.{may_at, may_round}

-- each of them has an id
ids_of_all : (ns : List ℕ) → ((m : ℕ) → has_node ns m ≡ true → IsId m) → AreIds ns
ids_of_all [] h = tt
ids_of_all (n ∷ ns) h = (h n (ap (λ (b : Bool). b || has_node ns n) (equal n n refl)), ids_of_all ns (λ m e. h m (later (n == m) m e)))
  where
    later : (b : Bool) (m : ℕ) → has_node ns m ≡ true → (b || has_node ns m) ≡ true
    later true m e = refl
    later false m e = e

module _ (w : World) (most : ℕ) (may : MayTake w (rounds partition_count most w).steps) (placed : (k : ℕ) → k < most → is_full_round partition_count w k ≡ false) where
  start : MayTake w []
  start = subst (λ (u : World). MayTake u []) (at_start partition_count w) (may_at w most may 0 (omega arith))

  -- the same nodes are up
  bases : (k : ℕ) → k ≤ most → Base (up_nodes w) (world_at partition_count w k)
  bases zero le = subst (λ (v : World). Base (up_nodes w) v) (sym (at_start partition_count w)) (base_there w start)
  bases (suc k) le =
      let b : Base (up_nodes w) (world_at partition_count w k) = bases k (omega (arith, le)) in
      base_kept partition_count (up_nodes w) (world_at partition_count w k) (world_at partition_count w (suc k)) b (next_round partition_count (up_nodes w) w k b (placed k (omega (arith, le))))

  up_at : (k : ℕ) → k ≤ most → (m : ℕ) → has_node (up_nodes w) m ≡ true → is_up (world_at partition_count w k) m ≡ true
  up_at k le m e = (bases k le).up m e

  pub plain_there : Plain partition_count (up_nodes w) w most
  plain_there = record {
    base = base_there w start;
    placed = placed;
    speaks = λ k lt a e. speaks_there (may_at w most may k (omega (arith, lt))) a (up_at k (omega (arith, lt)) a e);
  }

  -- what a group sends in a round is read as it was sent
  pub legible_there : (gs : List ℕ) → ((m : ℕ) → has_node gs m ≡ true → has_node (up_nodes w) m ≡ true) → (k : ℕ) → k < most → LegibleRound partition_count gs (world_at partition_count w k) (world_at partition_count w (suc k))
  legible_there gs up k lt =
      let b : Base (up_nodes w) (world_at partition_count w k) = bases k (omega (arith, lt)) in
      subst (λ (v : World). LegibleRound partition_count gs (world_at partition_count w k) v) (sym (one_more partition_count k w))
      (legible_round gs (world_at partition_count w k) (may_round w most may k lt) (subst Once (sym b.ups) b.once) (placed k lt) (λ m e. b.up m (up m e)))

  module _ (distinct : AreDistinct (concat w.network.groups)) (group : List ℕ) (among : Among w.network.groups group) (g : Greatest (up_in w group)) where
    up : (m : ℕ) → has_node (up_in w group) m ≡ true → is_up w m ≡ true
    up m e = (in_group w start group m e).1

    near : (m : ℕ) → has_node (up_in w group) m ≡ true → has_node (up_nodes w) m ≡ true
    near m e = up_node w start m (up m e)

    pub ground_there : Basis partition_count (up_nodes w) (up_in w group) g.lead (as_members w (up_in w group)) w most
    ground_there = record {
      plain = plain_there;
      group = group_there w start distinct group among;
      roll = roll_of w (up_in w group) (declared_nodes start.header) g (group_differ w start distinct group among) start.taken.declared.limit
          (λ m e. declared_up start m (up m e)) (λ m e. id_of start m (declared_up start m (up m e)))
          (λ n. subst (λ (f : Facts). FitsRack n f.role) (facts_are start n) ((known start).peopled.nodes n).rack);
      roster = roster_of w (up_in w group) (group_differ w start distinct group among);
      ids = ids_of_all (up_nodes w) (λ m e. id_of start m (declared_up start m (node_up w start m e)));
      lawful = lawful_there start;
      lacking = λ m e. lacking_there start m;
      asks = λ k lt m e. asks_there (may_at w most may k (omega (arith, lt))) m (up_at k (omega (arith, lt)) m (near m e));
      roomy = λ k lt. round_left (world_at partition_count w k) (may_at w most may k (omega (arith, lt))) g.lead;
      own = λ k le m e. not_itself (may_at w most may k le) m;
    }

    -- and what the phases behind agreement stand on
    pub provided : 16 ≤ most → (a : Agreed partition_count (up_in w group) g.lead (as_members w (up_in w group)) w most) → Provisions partition_count (up_in w group) w most a.key
    provided le a = record {
      rows = rows_there (world_at partition_count w 15) (may_at w most may 15 (omega (arith, le))) gs a.key set (a.steady 15 (omega arith) (omega (arith, le))).views (members_are w gs) once;
      waiting = waiting_there (world_at partition_count w 15) (may_at w most may 15 (omega (arith, le))) gs a.key set (a.steady 15 (omega arith) (omega (arith, le))).views (members_are w gs) once;
      handing = handing_there (world_at partition_count w 16) (may_at w most may 16 le) gs a.key set (a.steady 16 (omega arith) le).views (members_are w gs) once;
      held = λ i from upto. held_there (may_at w most may i upto) gs;
      rounds = λ i from lt. legible_there gs near i (omega (arith, lt));
    }
      where
        gs : List ℕ
        gs = up_in w group

        set : List Member
        set = as_members w gs

        once : DifferBy (λ n. n) (ids_of set)
        once = subst (λ (ns : List ℕ). DifferBy (λ n. n) ns) (sym (ids_are w gs)) (differ_in_order falling (λ n. n) gs (group_differ w start distinct group among))

    -- what the rounds of handing over and settling stand on
    pub footed : (a : Agreed partition_count (up_in w group) g.lead (as_members w (up_in w group)) w most) → (from upto : ℕ) → 16 ≤ from → upto ≤ most → Footing partition_count (up_in w group) (as_members w (up_in w group)) w from upto
    footed a from upto late le = record {
      actor = λ p. laid.view_acting G a.key p;
      empty = λ p. laid.is_view_empty G a.key p;
      acting_is = λ i ge lt m e p q. acting_here G (declared_nodes may.header) (picture i lt).0 (world_at partition_count w i) (picture i lt).1 gs g.lead a.key set roll (views i ge lt) (over i ge lt) m e p;
      empty_is = λ i ge lt m e p q. empty_here G (declared_nodes may.header) (picture i lt).0 (world_at partition_count w i) (picture i lt).1 gs g.lead a.key set roll (views i ge lt) (over i ge lt) m e p;
      settled = λ i ge lt m e p q s. settled_here G (declared_nodes may.header) (picture i lt).0 (world_at partition_count w i) (picture i lt).1 gs g.lead a.key set roll (views i ge lt) (over i ge lt) m e p s;
      places = λ i ge lt m e p q. places_there (may_at w most may i (within i lt)) m p q;
      own = λ i ge lt m e p s. within_bit _ _ p (shaped (may_at w most may i (within i lt)) m).own s;
    }
      where
        gs : List ℕ
        gs = up_in w group

        set : List Member
        set = as_members w gs

        roll : Roll gs g.lead set
        roll = ground_there.roll

        G : laid.Ground
        G = ground_of may.header (whole w most may)

        within : (i : ℕ) → i ≤ upto → i ≤ most
        within i lt = omega (arith, lt, le)

        picture : (i : ℕ) → i ≤ upto → (j : List Line) × Pictured G (declared_nodes may.header) j (world_at partition_count w i)
        picture i lt = pictured_at w most may i (within i lt)

        views : (i : ℕ) → from ≤ i → i ≤ upto → (m : ℕ) → has_node gs m ≡ true → ((world_at partition_count w i).facts m).exchange.view ≡ Some (record { key = a.key; members = set })
        views i ge lt = (a.steady i (omega (arith, ge, late)) (within i lt)).views

        over : (i : ℕ) → from ≤ i → i ≤ upto → Exchanged gs (world_at partition_count w i)
        over i ge lt = subst (λ (j : ℕ). Exchanged gs (world_at partition_count w j)) (again i (omega (arith, ge, late)))
            (exchanged_on partition_count (up_nodes w) gs g.lead set w most ground_there a (provided (omega (arith, ge, late, within i lt)) a) (i - 16) (omega (arith, ge, late, within i lt)))
          where
            again : (i : ℕ) → 16 ≤ i → 16 + (i - 16) ≡ i
            again i h = omega (arith, h)

    -- the group is a party of the schedule, where at most so many digests are pending to one node
    pub party_there : (q : ℕ) → 21 + q ≤ most → AtMostPending q (up_in w group) (world_at partition_count w 17) → Party (up_nodes w) group w most q
    party_there q le pending = record {
      lead = g.lead;
      ground = ground_there;
      provisions = λ a. provided (omega (arith, le)) a;
      pending = pending;
      footing = footed (agreed partition_count (up_nodes w) (up_in w group) g.lead (as_members w (up_in w group)) w most ground_there (omega (arith, le))) (17 + q) (20 + q) (omega arith) (omega (arith, le));
    }

  -- rounds that may be taken and lose no message are a schedule of calm
  pub schedule_there : AreDistinct (concat w.network.groups) → (q : ℕ) → ((group : List ℕ) → Among w.network.groups group → 17 ≤ most → AtMostPending q (up_in w group) (world_at partition_count w 17)) → Schedule (up_nodes w) w most q
  schedule_there distinct q pending = record {
    plain = plain_there;
    parties = λ le group among. party le group among (up_in w group) refl;
    homes = home w start;
    others = not_up w start;
  }
    where
      party : 21 + q ≤ most → (group : List ℕ) → Among w.network.groups group → (ns : List ℕ) → up_in w group ≡ ns → (up_in w group ≡ []) ⊎ Party (up_nodes w) group w most q
      party le group among [] e = inl e
      party le group among (n ∷ ns) e = inr (party_there distinct group among (subst Greatest (sym e) (greatest n ns)) q le (pending group among (omega (arith, le))))
