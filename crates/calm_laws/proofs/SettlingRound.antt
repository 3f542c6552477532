-- What a node knows settled, and what the tick of a round in which nothing is pending hands over and settles.
use Rattle.std.proofs.Common.{◌≡◌, ℕ, zero, suc, ◌+◌, ◌<◌, ◌≤◌, ◌==◌, ◌||◌, ◌&&◌, Bool, true, false, List, [], Option, None, refl, sym, ap, subst, ◌∙◌, arith}
use Rattle.std.specs.Prelude.{unwrap_or, if◌then◌else◌}
use Rattle.std.specs.List.{list_all, list_any}
use Rattle.cluster_types.specs.declared.cluster_key.ClusterKey.{ClusterKey}
use Rattle.cluster_types.specs.declared.member.Member.{Member}
use Rattle.cluster_types.specs.Members.{ids_of}
use Rattle.cluster_types.specs.Partitions.{partition_count}
use Rattle.cluster_types.specs.Rows.{bit}
use Rattle.partition_lists.specs.Lists.{list}
use Rattle.partition_lists.proofs.InOrderLaws.{equal}
use Rattle.node_rules.specs.Agreement as agreement
use Rattle.node_rules.specs.Bits.{Bits, knows_done}
use Rattle.node_rules.specs.Copies.{is_of}
use Rattle.node_rules.specs.Exchange.{View, members_of}
use Rattle.node_rules.specs.Facts.{Facts, list_at}
use Rattle.node_rules.specs.Map.{acting_by_rows, list_master}
use Rattle.node_rules.specs.Notes.{after_ages, noted}
use Rattle.node_rules.specs.Settling.{settling_due, settling_from}
use Rattle.node_rules.specs.Standing.{are_all_done, is_acting, is_all_empty, knows_all_settled, knows_settled, others}
use Rattle.node_rules.specs.Tables.{contains}
use Rattle.node_rules.specs.Transactions.{Transaction, is_busy}
use Rattle.journal_readings.specs.Lines.{has_node}
use Rattle.cluster_rules.specs.World.{World}
use Rattle.cluster_rules.proofs.KeptFacts.{num_same}
use Rattle.cluster_laws.proofs.At.{differ}
use Rattle.cluster_laws.proofs.ReadingClaims.{all_from}
use Rattle.key_laws.proofs.Addressed.{not_gone}
use Rattle.calm_laws.specs.Acts.{as_read}
use Rattle.calm_laws.specs.Calming.{Reaches}
use Rattle.calm_laws.specs.Flows.{Rounded}
use Rattle.calm_laws.specs.Laws.{is_to_propose}
use Rattle.calm_laws.specs.Progresses.{BitsGrow, KnowsDone}
use Rattle.calm_laws.specs.Transacting.{NoneOpen}
use Rattle.calm_laws.proofs.Beginning.{aged_none}
use Rattle.calm_laws.proofs.Bitwise.{Has, has_grows}
use Rattle.calm_laws.proofs.Growing.{all_sent_bits, rests_grow}
use Rattle.calm_laws.proofs.Placing.{hands_over, next_above, settles_it}
use Rattle.calm_laws.proofs.Rolls.{other_here}
use Rattle.calm_laws.proofs.Taking.{rests_proposed}
use Rattle.calm_laws.proofs.Telling.{TellRound, all_done, calm}
use Rattle.calm_laws.proofs.Ticking.{progressing, tick_facts, tick_list}

-- ---- who knows all settled

pub knows_at : (f : Facts) (n p q : ℕ) → knows_all_settled f n p ≡ true → p ≤ q → q < p + n → knows_settled f q ≡ true
unfolding knows_all_settled
knows_at f zero p q e le lt = absurd (omega (arith, le, lt))
knows_at f (suc n) p q e le lt = go (p == q) refl (λ ge. knows_at f n (p + 1) q (second (knows_settled f p) (knows_all_settled f n (p + 1)) e) ge (omega (arith, lt)))
  where
    first : (a b : Bool) → (a && b) ≡ true → a ≡ true
    first true b i = refl
    first false b i = i

    second : (a b : Bool) → (a && b) ≡ true → b ≡ true
    second true b i = i
    second false b i = differ i refl

    go : (b : Bool) → (p == q) ≡ b → (p + 1 ≤ q → knows_settled f q ≡ true) → knows_settled f q ≡ true
    go true s rest = subst (λ (y : ℕ). knows_settled f y ≡ true) (num_same p q s) (first (knows_settled f p) (knows_all_settled f n (p + 1)) e)
    go false s rest = rest (next_above p q le (λ i. differ (equal p q i) s))

pub knows_each : (f : Facts) (n p : ℕ) → ((q : ℕ) → p ≤ q → q < p + n → knows_settled f q ≡ true) → knows_all_settled f n p ≡ true
unfolding knows_all_settled
knows_each f zero p h = refl
knows_each f (suc n) p h = ap (λ (b : Bool). b && knows_all_settled f n (p + 1)) (h p (omega arith) (omega arith)) ∙ knows_each f n (p + 1) (λ q ge lt. h q (omega (arith, ge)) (omega (arith, lt)))

-- ---- one round

module _ (ns gs : List ℕ) (g : ℕ) (set : List Member) (k : ClusterKey) (w v : World) (r : Rounded partition_count w v) (h : TellRound partition_count ns gs g set k w v r) (closed : NoneOpen gs w) where
  none : (m : ℕ) → has_node gs m ≡ true → (after_ages (w.facts m)).agreement.proposal ≡ None
  none m here = aged_none (w.facts m) (h.hands.ready.none m here)

  asks : (m : ℕ) → has_node gs m ≡ true → is_to_propose (after_ages (w.facts m)) ≡ false
  asks m here = (calm ns gs g set k w v r h).asks m here

  settles : (m : ℕ) → has_node gs m ≡ true → progressing partition_count (w.facts m) ≡ noted None (after_ages (w.facts m)) (settling_from partition_count 0 (after_ages (w.facts m)))
  settles m here =
      ap (λ (f : Facts). noted None f (settling_due partition_count f)) (rests_proposed (w.facts m) (none m here) (asks m here))
      ∙ ap (λ (b : Bool). noted None (after_ages (w.facts m)) (if b then settling_from partition_count 0 (after_ages (w.facts m)) else [])) (h.hands.over m here)

  list_of : (m : ℕ) → has_node gs m ≡ true → (p : ℕ) → list_at (after_ages (w.facts m)) p ≡ list set p
  list_of m here p = ap (λ (o : Option View). list (members_of o) p) (h.hands.steady.views m here)

  free : (m : ℕ) → has_node gs m ≡ true → (p : ℕ) → is_busy (w.facts m).transactions p ≡ false
  free m here p = ap (λ (ts : List Transaction). list_any (λ (t : Transaction). is_of p t.digest) ts) (closed m here)

  -- a bit lasts through the tick
  pub grown : (m : ℕ) → has_node gs m ≡ true → (b : Bool) (p : ℕ) → Has b p (w.facts m).bits → Has b p (progressing partition_count (w.facts m)).bits
  grown m here b p has = has_grows b p (w.facts m).bits (progressing partition_count (w.facts m)).bits grow has
    where
      up : (w.facts m).up ≡ true
      up = h.hands.ready.base.up m (h.hands.ready.group.up m here)

      grow : BitsGrow (w.facts m).bits (progressing partition_count (w.facts m)).bits
      grow =
          subst (λ (z : Bits). BitsGrow (w.facts m).bits z) (ap (λ (f : Facts). f.bits) (tick_facts partition_count 0 (w.facts m) up) ∙ all_sent_bits (progressing partition_count (w.facts m)) (as_read (tick_list partition_count (w.facts m))))
          (rests_grow partition_count 0 (w.facts m) up (none m here) (asks m here))

  -- who knows each other one done knows all done
  pub done_by : (m : ℕ) → has_node gs m ≡ true → ((x : ℕ) → has_node gs x ≡ true → (m ≡ x → ⊥) → KnowsDone partition_count x (w.facts m).bits) → (p : ℕ) → p < partition_count → are_all_done (w.facts m) p ≡ true
  done_by m here known p lt =
      ap (λ (b : Bool). b && list_all (knows_done (w.facts m).bits p) (others (w.facts m))) (all_done (w.facts m) (h.hands.over m here) (h.empty m here) p)
      ∙ ap (λ (xs : List ℕ). list_all (knows_done (w.facts m).bits p) xs) same
      ∙ all_from (knows_done (w.facts m).bits p) (agreement.others_among m set) one
    where
      same : others (w.facts m) ≡ agreement.others_among m set
      same = ap (λ (y : ℕ). agreement.others_among y (members_of (w.facts m).exchange.view)) (h.hands.ready.base.named m) ∙ ap (λ (o : Option View). agreement.others_among m (members_of o)) (h.hands.steady.views m here)

      one : (y : ℕ) → contains (agreement.others_among m set) y ≡ true → knows_done (w.facts m).bits p y ≡ true
      one y e =
          let z : KnowsDone partition_count y (w.facts m).bits = known y (other_here gs g set h.hands.ready.roll m y e) (λ i. not_gone (ids_of set) m y e (sym i)) in
          ap (λ (o : Option (List Bool)). bit (unwrap_or o []) p) z.told ∙ z.full p lt

  -- the acting master hands over what it doesn't keep
  pub hands_round : (m p : ℕ) → has_node gs m ≡ true → p < partition_count → acting_by_rows (list set p) (w.facts m).exchange.rows p ≡ m → (list_master (list set p) == m) ≡ false → are_all_done (w.facts m) p ≡ true → Reaches (w.facts m).bits.handed p
      → (bit (w.facts m).bits.own_handed p ≡ true → bit (w.facts m).bits.handed p ≡ true) → Has true p (progressing partition_count (w.facts m)).bits
  hands_round m p here lt acts other done reach own =
      subst (λ (f : Facts). Has true p f.bits) (sym (settles m here))
      (hands_over partition_count p (list set p) (after_ages (w.facts m)) lt
      (record {
        list_is = list_of m here p;
        acting = ap (λ (y : ℕ). acting_by_rows (list set p) (w.facts m).exchange.rows p == y) (h.hands.ready.base.named m) ∙ equal (acting_by_rows (list set p) (w.facts m).exchange.rows p) m acts;
        master = ap (λ (y : ℕ). list_master (list set p) == y) (h.hands.ready.base.named m) ∙ other;
        done = done;
        free = free m here p;
        reach = reach;
        own = own;
      }))

  -- and the list master settles what was handed over to it, or what it may hand over to itself
  pub settles_round : (m p : ℕ) → has_node gs m ≡ true → p < partition_count → list_master (list set p) ≡ m → is_all_empty (w.facts m) p ≡ false → (bit (w.facts m).bits.handed p || (is_acting (w.facts m) (list set p) p && are_all_done (w.facts m) p)) ≡ true
      → Reaches (w.facts m).bits.settled p → Has false p (progressing partition_count (w.facts m)).bits
  settles_round m p here lt mine some may reach =
      subst (λ (f : Facts). Has false p f.bits) (sym (settles m here))
      (settles_it partition_count p (list set p) (after_ages (w.facts m)) lt
      (record {
        list_is = list_of m here p;
        master = ap (λ (y : ℕ). list_master (list set p) == y) (h.hands.ready.base.named m) ∙ equal (list_master (list set p)) m mine;
        some = some;
        free = free m here p;
        may = may;
        reach = reach;
      }))

  pub is_acting_by : (m p : ℕ) → acting_by_rows (list set p) (w.facts m).exchange.rows p ≡ m → is_acting (w.facts m) (list set p) p ≡ true
  is_acting_by m p acts = ap (λ (y : ℕ). acting_by_rows (list set p) (w.facts m).exchange.rows p == y) (h.hands.ready.base.named m) ∙ equal (acting_by_rows (list set p) (w.facts m).exchange.rows p) m acts
