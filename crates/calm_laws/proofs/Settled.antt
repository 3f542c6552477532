-- Three rounds after the last digest was handed on each node of the group knows each partition settled.
use Rattle.std.proofs.Common.{◌≡◌, ℕ, suc, ◌+◌, ◌<◌, ◌≤◌, ◌==◌, ◌||◌, ◌&&◌, Bool, true, false, List, [], ◌∷◌, length, refl, sym, ap, subst, ◌∙◌, ◌⊎◌, inl, inr, arith}
use Rattle.cluster_types.specs.declared.member.Member.{Member}
use Rattle.cluster_types.specs.Partitions.{partition_count}
use Rattle.cluster_types.specs.Rows.{bit}
use Rattle.partition_lists.specs.Lists.{list}
use Rattle.partition_lists.proofs.InOrderLaws.{equal}
use Rattle.node_rules.specs.Facts.{Facts}
use Rattle.node_rules.specs.Map.{acting_by_rows, list_master}
use Rattle.node_rules.specs.Standing.{are_all_done, is_acting, is_all_empty, knows_all_settled, knows_settled}
use Rattle.journal_readings.specs.Lines.{has_node}
use Rattle.cluster_rules.specs.World.{World}
use Rattle.cluster_rules.proofs.KeptFacts.{num_same}
use Rattle.cluster_laws.proofs.At.{differ}
use Rattle.calm_laws.specs.Calming.{Reaches, Settling}
use Rattle.calm_laws.specs.Flows.{world_at}
use Rattle.calm_laws.specs.Footing.{Footing}
use Rattle.calm_laws.specs.Ground.{Agreed, Basis, Provisions}
use Rattle.calm_laws.specs.Handing.{AtMostPending, LegibleRound}
use Rattle.calm_laws.specs.Progresses.{FullInbox, KnowsDone}
use Rattle.calm_laws.specs.Transacting.{NoneOpen}
use Rattle.calm_laws.specs.Turns.{Ready}
use Rattle.calm_laws.proofs.Agreed.{ready_at}
use Rattle.calm_laws.proofs.Bitwise.{Has}
use Rattle.calm_laws.proofs.Company.{KindsIn}
use Rattle.calm_laws.proofs.DoneAnswered.{Rowful, done_known}
use Rattle.calm_laws.proofs.Emptied.{emptied, exchanged_on, handing_on, hands, legible, none_open_on, rows_on}
use Rattle.calm_laws.proofs.Masters.{acting_in, master_in}
use Rattle.calm_laws.proofs.Resting.{undisturbed}
use Rattle.calm_laws.proofs.Silence.{silent_end}
use Rattle.calm_laws.proofs.Spreading.{answers_bit, bit_end, knows_end, tells_bit}
use Rattle.calm_laws.proofs.Steadying.{steady_rests}
use Rattle.calm_laws.proofs.Telling.{TellRound}
use Rattle.calm_laws.proofs.Ticking.{progressing}
use Rattle.calm_laws.proofs.SettlingRound.{done_by, grown, hands_round, is_acting_by, knows_at, knows_each, settles_round}

-- ---- the rounds

module _ (ns gs : List ℕ) (g : ℕ) (set : List Member) (w : World) (most : ℕ) (x : Basis partition_count ns gs g set w most) (a : Agreed partition_count gs g set w most) (p : Provisions partition_count gs w most a.key) where
  abbrev W : ℕ → World
  W j = world_at partition_count w (16 + j)

  -- nothing is on its way to the group as a round ends
  silent : (j : ℕ) → suc (16 + j) ≤ most → KindsIn gs [] (world_at partition_count w (suc (16 + j)))
  silent j le =
      let l : LegibleRound partition_count gs (W j) (world_at partition_count w (suc (16 + j))) = p.rounds (16 + j) (omega arith) le in
      let ready : Ready ns gs g set (W j) = ready_at partition_count ns gs g set w most x (16 + j) (omega arith) (omega (arith, le)) in
      silent_end partition_count ns gs (W j) (world_at partition_count w (suc (16 + j))) l.round
      (undisturbed partition_count ns gs g set (W j) (world_at partition_count w (suc (16 + j))) l.round ready (steady_rests ns gs g set a.key (W j) ready (a.steady (16 + j) (omega arith) (omega (arith, le))))) l.legible

  module _ (j : ℕ) (le : suc (suc (16 + j)) ≤ most) (empty : AtMostPending 0 gs (world_at partition_count w (suc (16 + j)))) where
    -- the round that begins then
    abbrev begins : World
    begins = world_at partition_count w (16 + suc j)

    abbrev ends : World
    ends = world_at partition_count w (suc (16 + suc j))

    at_begin : (P : World → Type 0) → P (world_at partition_count w (suc (16 + j))) → P (world_at partition_count w (16 + suc j))
    at_begin P y = subst (λ (i : ℕ). P (world_at partition_count w i)) (next j) y
      where
        next : (j : ℕ) → suc (16 + j) ≡ 16 + suc j
        next j = omega arith

    pub round : LegibleRound partition_count gs (world_at partition_count w (16 + suc j)) (world_at partition_count w (suc (16 + suc j)))
    round = legible partition_count ns gs g set w most x a p (suc j) (omega (arith, le))

    no_more : (ds : List (List ℕ)) → length ds ≤ 0 → ds ≡ []
    no_more [] e = refl
    no_more (d ∷ ds) e = absurd (omega (arith, e))

    pub telling : TellRound partition_count ns gs g set a.key (world_at partition_count w (16 + suc j)) (world_at partition_count w (suc (16 + suc j))) round.round
    telling = record {
      hands = hands partition_count ns gs g set w most x a p (suc j) (omega (arith, le)) round (handing_on partition_count ns gs g set w most x a p (suc j) (omega (arith, le)));
      empty = λ m here t i. no_more t.pending (at_begin (AtMostPending 0 gs) empty m here t i);
    }

    pub left : FullInbox partition_count gs (world_at partition_count w (16 + suc j))
    left m here from y i = differ (at_begin (KindsIn gs []) (silent j (omega (arith, le))) m here from y i) refl

    pub rowful : Rowful gs (world_at partition_count w (16 + suc j))
    rowful = record { rows = rows_on partition_count ns gs g set w most x a p (suc j) (omega (arith, le)); senders = λ m here from y i. differ (at_begin (KindsIn gs []) (silent j (omega (arith, le))) m here from y i) refl }

    pub closed_begin : NoneOpen gs (world_at partition_count w (16 + suc j))
    closed_begin = none_open_on partition_count ns gs g set w most x a p (suc j) (omega (arith, le))

    abbrev told : ℕ → Facts
    told m = progressing partition_count ((world_at partition_count w (16 + suc j)).facts m)

    abbrev knows : ℕ → Bool
    knows m = knows_all_settled (progressing partition_count ((world_at partition_count w (16 + suc j)).facts m)) partition_count 0

    pub ends_knowing : (m : ℕ) → has_node gs m ≡ true → knows m ≡ true → knows_all_settled (ends.facts m) partition_count 0 ≡ true
    ends_knowing = knows_end ns gs g set a.key begins ends round.round telling left rowful

    pub ends_bit : (m : ℕ) → has_node gs m ≡ true → (b : Bool) (q : ℕ) → Has b q (told m).bits → Has b q (ends.facts m).bits
    ends_bit = bit_end ns gs g set a.key begins ends round.round telling left rowful

    pub ends_told : (y m : ℕ) → has_node gs y ≡ true → has_node gs m ≡ true → (m ≡ y → ⊥) → knows y ≡ false → (b : Bool) (q : ℕ) → Has b q (told y).bits → Has b q (ends.facts m).bits
    ends_told = tells_bit ns gs g set a.key begins ends round.round telling left rowful

    pub ends_answered : (y m : ℕ) → has_node gs y ≡ true → has_node gs m ≡ true → (m ≡ y → ⊥) → knows y ≡ true → knows m ≡ false → (q : ℕ) → Has false q (told y).bits → Has false q (ends.facts m).bits
    ends_answered = answers_bit ns gs g set a.key begins ends round.round telling left rowful

    pub ends_done : (m : ℕ) → has_node gs m ≡ true → knows m ≡ false → (y : ℕ) → has_node gs y ≡ true → (m ≡ y → ⊥) → KnowsDone partition_count y (ends.facts m).bits
    ends_done m here e y there d = done_known ns gs g set a.key begins ends round.round telling left rowful y m there here d e

    pub tick_grown : (m : ℕ) → has_node gs m ≡ true → (b : Bool) (q : ℕ) → Has b q (begins.facts m).bits → Has b q (told m).bits
    tick_grown = grown ns gs g set a.key begins ends round.round telling closed_begin

    pub tick_done : (m : ℕ) → has_node gs m ≡ true → ((y : ℕ) → has_node gs y ≡ true → (m ≡ y → ⊥) → KnowsDone partition_count y (begins.facts m).bits) → (q : ℕ) → q < partition_count → are_all_done (begins.facts m) q ≡ true
    tick_done = done_by ns gs g set a.key begins ends round.round telling closed_begin

    pub tick_hands : (m q : ℕ) → has_node gs m ≡ true → q < partition_count → acting_by_rows (list set q) (begins.facts m).exchange.rows q ≡ m → (list_master (list set q) == m) ≡ false → are_all_done (begins.facts m) q ≡ true → Reaches (begins.facts m).bits.handed q → (bit (begins.facts m).bits.own_handed q ≡ true → bit (begins.facts m).bits.handed q ≡ true) → Has true q (told m).bits
    tick_hands = hands_round ns gs g set a.key begins ends round.round telling closed_begin

    pub tick_settles : (m q : ℕ) → has_node gs m ≡ true → q < partition_count → list_master (list set q) ≡ m → is_all_empty (begins.facts m) q ≡ false → (bit (begins.facts m).bits.handed q || (is_acting (begins.facts m) (list set q) q && are_all_done (begins.facts m) q)) ≡ true
        → Reaches (begins.facts m).bits.settled q → Has false q (told m).bits
    tick_settles = settles_round ns gs g set a.key begins ends round.round telling closed_begin

    pub tick_acts : (m q : ℕ) → acting_by_rows (list set q) (begins.facts m).exchange.rows q ≡ m → is_acting (begins.facts m) (list set q) q ≡ true
    tick_acts = is_acting_by ns gs g set a.key begins ends round.round telling closed_begin

  -- ---- three rounds

  module _ (q : ℕ) (enough : 20 + q ≤ most) (pending : AtMostPending q gs (world_at partition_count w 17)) (foot : Footing partition_count gs set w (17 + q) (20 + q)) where
    empty_at : (j : ℕ) → q ≤ j → 17 + j ≤ most → AtMostPending 0 gs (world_at partition_count w (suc (16 + j)))
    empty_at j ge le = subst (λ (i : ℕ). AtMostPending 0 gs (world_at partition_count w i)) (same j) (emptied partition_count ns gs g set w most x a p j le (λ m here t i. lift (pending m here t i)))
      where
        same : (j : ℕ) → 17 + j ≡ suc (16 + j)
        same j = omega arith

        lift : {c : ℕ} → c ≤ q → c ≤ j
        lift le = omega (arith, le, ge)

    e1 : AtMostPending 0 gs (world_at partition_count w (suc (16 + q)))
    e1 = empty_at q (omega arith) (omega (arith, enough))

    e2 : AtMostPending 0 gs (world_at partition_count w (suc (16 + suc q)))
    e2 = empty_at (suc q) (omega arith) (omega (arith, enough))

    e3 : AtMostPending 0 gs (world_at partition_count w (suc (16 + suc (suc q))))
    e3 = empty_at (suc (suc q)) (omega arith) (omega (arith, enough))

    l1 : suc (suc (16 + q)) ≤ most
    l1 = omega (arith, enough)

    l2 : suc (suc (16 + suc q)) ≤ most
    l2 = omega (arith, enough)

    l3 : suc (suc (16 + suc (suc q))) ≤ most
    l3 = omega (arith, enough)

    next : (j : ℕ) → suc (16 + j) ≡ 16 + suc j
    next j = omega arith

    -- the world before the second round, the third, and after that
    abbrev second : World
    second = world_at partition_count w (16 + suc (suc q))

    abbrev third : World
    third = world_at partition_count w (16 + suc (suc (suc q)))

    abbrev last : World
    last = world_at partition_count w (suc (16 + suc (suc (suc q))))

    abbrev Knowing : World → ℕ → Type 0
    Knowing u m = (knows_all_settled (u.facts m) partition_count 0 ≡ true) ⊎ ((y : ℕ) → has_node gs y ≡ true → (m ≡ y → ⊥) → KnowsDone partition_count y (u.facts m).bits)

    knowing : (m : ℕ) → has_node gs m ≡ true → Knowing second m
    knowing m here = subst (λ (i : ℕ). Knowing (world_at partition_count w i) m) (next (suc q)) (go (knows q l1 e1 m) refl)
      where
        go : (b : Bool) → knows q l1 e1 m ≡ b → Knowing (world_at partition_count w (suc (16 + suc q))) m
        go true e = inl (ends_knowing q l1 e1 m here e)
        go false e = inr (λ y there d. ends_done q l1 e1 m here e y there d)

    -- a partition of which some copy had a record
    module _ (r : ℕ) (lt : r < partition_count) (some : foot.empty r ≡ false) where
      abbrev leader : ℕ
      leader = list_master (list set r)

      led : has_node gs leader ≡ true
      led = master_in gs g set x.roll r

      acted_by : has_node gs (foot.actor r) ≡ true
      acted_by = subst (λ (y : ℕ). has_node gs y ≡ true) (foot.acting_is (17 + q) (omega arith) (omega arith) g x.roll.lead r lt) (acting_in gs g set x.roll ((world_at partition_count w (17 + q)).facts g).exchange.rows r)

      -- who knows all settled has the bit, and so has the list master
      bit_of : (i : ℕ) → 17 + q ≤ i → i ≤ 20 + q → (m : ℕ) → has_node gs m ≡ true → knows_all_settled ((world_at partition_count w i).facts m) partition_count 0 ≡ true → Has false r ((world_at partition_count w i).facts leader).bits
      bit_of i ge le m here e =
          foot.settled i ge le m here r lt
          (which (bit ((world_at partition_count w i).facts m).bits.settled r) ((world_at partition_count w i).facts m).exchange.exchanged (is_all_empty ((world_at partition_count w i).facts m) r) (foot.empty_is i ge le m here r lt ∙ some)
          (knows_at ((world_at partition_count w i).facts m) partition_count 0 r e (omega arith) (omega (arith, lt))))
        where
          which : (b c d : Bool) → d ≡ false → (b || (c && d)) ≡ true → b ≡ true
          which true c d i j = refl
          which false true d i j = differ j i
          which false false d i j = j

      abbrev After : Type 0
      After = Has false r ((world_at partition_count w (suc (16 + suc (suc q)))).facts leader).bits ⊎ Has true r ((world_at partition_count w (suc (16 + suc (suc q)))).facts leader).bits

      -- after the second round the list master has settled it, or knows that it was handed over
      moved : Has false r (third.facts leader).bits ⊎ Has true r (third.facts leader).bits
      moved = subst (λ (i : ℕ). Has false r ((world_at partition_count w i).facts leader).bits ⊎ Has true r ((world_at partition_count w i).facts leader).bits) (next (suc (suc q))) (go (knowing (foot.actor r) acted_by))
        where
          acts : acting_by_rows (list set r) (second.facts (foot.actor r)).exchange.rows r
              ≡ foot.actor r
          acts = foot.acting_is (16 + suc (suc q)) (omega arith) (omega arith) (foot.actor r) acted_by r lt

          -- it hands over
          over : are_all_done (second.facts (foot.actor r)) r ≡ true → (leader == foot.actor r) ≡ false → (c : Bool) → knows (suc q) l2 e2 (foot.actor r) ≡ c → After
          over done other true e =
              inl (subst (λ (i : ℕ). Has false r ((world_at partition_count w i).facts leader).bits) (sym (next (suc (suc q))))
              (bit_of (16 + suc (suc (suc q))) (omega arith) (omega arith) (foot.actor r) acted_by
              (subst (λ (i : ℕ). knows_all_settled ((world_at partition_count w i).facts (foot.actor r)) partition_count 0 ≡ true) (next (suc (suc q))) (ends_knowing (suc q) l2 e2 (foot.actor r) acted_by e))))
          over done other false e =
              inr (ends_told (suc q) l2 e2 (foot.actor r) leader acted_by led (λ i. differ (equal leader (foot.actor r) i) other) e true r
              (tick_hands (suc q) l2 e2 (foot.actor r) r acted_by lt acts other done (foot.places (16 + suc (suc q)) (omega arith) (omega arith) (foot.actor r) acted_by r lt).0 (foot.own (16 + suc (suc q)) (omega arith) (omega arith) (foot.actor r) acted_by r)))

          -- or is the list master, and settles
          same : are_all_done (second.facts (foot.actor r)) r ≡ true → leader ≡ foot.actor r → After
          same done i =
              inl (subst (λ (y : ℕ). Has false r ((world_at partition_count w (suc (16 + suc (suc q)))).facts y).bits) (sym i)
              (ends_bit (suc q) l2 e2 (foot.actor r) acted_by false r
              (tick_settles (suc q) l2 e2 (foot.actor r) r acted_by lt i (foot.empty_is (16 + suc (suc q)) (omega arith) (omega arith) (foot.actor r) acted_by r lt ∙ some)
              (both (bit (second.facts (foot.actor r)).bits.handed r) (is_acting (second.facts (foot.actor r)) (list set r) r) (are_all_done (second.facts (foot.actor r)) r) (tick_acts (suc q) l2 e2 (foot.actor r) r acts) done)
              (foot.places (16 + suc (suc q)) (omega arith) (omega arith) (foot.actor r) acted_by r lt).1)))
            where
              both : (b c d : Bool) → c ≡ true → d ≡ true → (b || (c && d)) ≡ true
              both true c d i j = refl
              both false c d i j = ap (λ (z : Bool). z && d) i ∙ j

          open_to : are_all_done (second.facts (foot.actor r)) r ≡ true → (b : Bool) → (leader == foot.actor r) ≡ b → After
          open_to done true e = same done (num_same leader (foot.actor r) e)
          open_to done false e = over done e (knows (suc q) l2 e2 (foot.actor r)) refl

          go : Knowing second (foot.actor r) → After
          go (inl e) = inl (ends_bit (suc q) l2 e2 leader led false r (tick_grown (suc q) l2 e2 leader led false r (bit_of (16 + suc (suc q)) (omega arith) (omega arith) (foot.actor r) acted_by e)))
          go (inr d) = open_to (tick_done (suc q) l2 e2 (foot.actor r) acted_by d r lt) (leader == foot.actor r) refl

      -- so that its tick in the third round leaves it settled
      settled_told : Has false r (told (suc (suc q)) l3 e3 leader).bits
      settled_told = go moved
        where
          go : Has false r (third.facts leader).bits ⊎ Has true r (third.facts leader).bits → Has false r (told (suc (suc q)) l3 e3 leader).bits
          go (inl e) = tick_grown (suc (suc q)) l3 e3 leader led false r e
          go (inr e) =
              tick_settles (suc (suc q)) l3 e3 leader r led lt refl (foot.empty_is (16 + suc (suc (suc q))) (omega arith) (omega arith) leader led r lt ∙ some)
              (ap (λ (b : Bool). b || (is_acting (third.facts leader) (list set r) r && are_all_done (third.facts leader) r)) e) (foot.places (16 + suc (suc (suc q))) (omega arith) (omega arith) leader led r lt).1

      -- and all that ask hear of it
      heard : (m : ℕ) → has_node gs m ≡ true → knows (suc (suc q)) l3 e3 m ≡ false → Has false r (last.facts m).bits
      heard m here e = go (m == leader) refl (knows (suc (suc q)) l3 e3 leader) refl
        where
          go : (b : Bool) → (m == leader) ≡ b → (c : Bool) → knows (suc (suc q)) l3 e3 leader ≡ c → Has false r (last.facts m).bits
          go true s c f = subst (λ (y : ℕ). Has false r (last.facts y).bits) (sym (num_same m leader s)) (ends_bit (suc (suc q)) l3 e3 leader led false r settled_told)
          go false s false f = ends_told (suc (suc q)) l3 e3 leader m led here (λ i. differ (equal m leader i) s) f false r settled_told
          go false s true f = ends_answered (suc (suc q)) l3 e3 leader m led here (λ i. differ (equal m leader i) s) f e r settled_told

    all_know : Settling partition_count gs last
    all_know m here = go (knows (suc (suc q)) l3 e3 m) refl
      where
        over : (last.facts m).exchange.exchanged ≡ true
        over =
            subst (λ (i : ℕ). ((world_at partition_count w i).facts m).exchange.exchanged ≡ true) (sym (next (suc (suc (suc q)))))
            (exchanged_on partition_count ns gs g set w most x a p (suc (suc (suc (suc q)))) (omega (arith, enough)) m here)

        empty_last : (r : ℕ) → r < partition_count → is_all_empty (last.facts m) r ≡ foot.empty r
        empty_last r lt = foot.empty_is (suc (16 + suc (suc (suc q)))) (omega arith) (omega arith) m here r lt

        either : (b c d : Bool) → c ≡ true → d ≡ true → (b || (c && d)) ≡ true
        either true c d i j = refl
        either false c d i j = ap (λ (z : Bool). z && d) i ∙ j

        one : knows (suc (suc q)) l3 e3 m ≡ false → (r : ℕ) → r < partition_count → (b : Bool) → foot.empty r ≡ b → knows_settled (last.facts m) r ≡ true
        one e r lt true s = either (bit (last.facts m).bits.settled r) (last.facts m).exchange.exchanged (is_all_empty (last.facts m) r) over (empty_last r lt ∙ s)
        one e r lt false s = ap (λ (b : Bool). b || ((last.facts m).exchange.exchanged && is_all_empty (last.facts m) r)) (heard r lt s m here e)

        go : (b : Bool) → knows (suc (suc q)) l3 e3 m ≡ b → knows_all_settled (last.facts m) partition_count 0 ≡ true
        go true e = ends_knowing (suc (suc q)) l3 e3 m here e
        go false e = knows_each (last.facts m) partition_count 0 (λ r ge lt. one e r (omega (arith, lt)) (foot.empty r) refl)

    -- all of the group know each partition settled
    pub group_settles : Settling partition_count gs (world_at partition_count w (20 + q))
    group_settles = subst (λ (i : ℕ). Settling partition_count gs (world_at partition_count w i)) same all_know
      where
        same : suc (16 + suc (suc (suc q))) ≡ 20 + q
        same = omega arith
