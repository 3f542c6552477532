-- A round of a group of which each node knows each partition settled: only beats are sent, nothing is left to learn or
-- drop, and nothing is on its way.
use Rattle.std.proofs.Common.{◌≡◌, ℕ, zero, suc, ◌+◌, ◌≤◌, ◌==◌, ◌||◌, ◌&&◌, arith, not, Bool, true, false, cond, List, [], ◌∷◌, length, Option, None, refl, sym, ap, subst, ◌∙◌, ◌⊎◌, inl, inr}
use Rattle.std.specs.Prelude.{filter, if◌then◌else◌}
use Rattle.cluster_types.specs.declared.cluster_key.ClusterKey.{ClusterKey}
use Rattle.cluster_types.specs.declared.member.Member.{Member}
use Rattle.partition_lists.proofs.InOrderLaws.{equal}
use Rattle.node_rules.specs.Agreement as agreement
use Rattle.node_rules.specs.Batches.{Targets}
use Rattle.node_rules.specs.Bits.{Bits}
use Rattle.node_rules.specs.Copies.{Store}
use Rattle.node_rules.specs.Exchange.{Exchange, View, members_of}
use Rattle.node_rules.specs.Facts.{Facts, list_at}
use Rattle.node_rules.specs.Map.{lacks}
use Rattle.node_rules.specs.Notes.{after_ages, noted}
use Rattle.node_rules.specs.Settling.{settling_due, settling_from}
use Rattle.node_rules.specs.Standing.{has_nothing_to_learn_or_drop, is_to_drop, is_to_learn, knows_all_settled, others}
use Rattle.node_rules.specs.Tables.{contains}
use Rattle.journal_readings.specs.Lines.{has_node}
use Rattle.cluster_rules.specs.World.{World}
use Rattle.cluster_rules.proofs.KeptFacts.{num_same}
use Rattle.cluster_laws.proofs.At.{differ}
use Rattle.run_laws.specs.Tied.{Among}
use Rattle.calm_laws.specs.Acts.{Gets, Input, Ticks, sent_at, served}
use Rattle.calm_laws.specs.Calming.{Idle, Learning, Settling, LeavesAsIs}
use Rattle.calm_laws.specs.Exchanges.{Exchanged, RowsThere}
use Rattle.calm_laws.specs.Flows.{Flowed, Rounded, inbox, ticks_if}
use Rattle.calm_laws.specs.Group.{kind}
use Rattle.calm_laws.specs.Handing.{AtMostPending, NothingOut}
use Rattle.calm_laws.specs.Letters.{arriving_at}
use Rattle.calm_laws.specs.Transacting.{NoneOpen}
use Rattle.calm_laws.specs.Turns.{Ready, Steady}
use Rattle.calm_laws.proofs.Beginning.{aged_none}
use Rattle.calm_laws.proofs.Company.{FromGroup, KindsIn, flow_kinds, from_ticks}
use Rattle.calm_laws.proofs.Flow.{among_either}
use Rattle.calm_laws.proofs.Growing.{bits_same}
use Rattle.calm_laws.proofs.Hearing.{gets_inbox}
use Rattle.calm_laws.proofs.Knowing.{all_settled_grows}
use Rattle.calm_laws.proofs.Owing.{settled_owes}
use Rattle.calm_laws.proofs.Quiet.{beats_stay, knows_telling, quiet_facts, tick_quiet}
use Rattle.calm_laws.proofs.Resting.{Undisturbed, undisturbed}
use Rattle.calm_laws.proofs.Rolls.{other_here}
use Rattle.calm_laws.proofs.Silence.{nothing_comes}
use Rattle.calm_laws.proofs.Steadying.{steady_rests}
use Rattle.calm_laws.proofs.Taking.{rests_proposed}
use Rattle.calm_laws.proofs.Ticking.{progressing}

-- ---- lists

none_pass : (test : ℕ → Bool) (xs : List ℕ) → ((x : ℕ) → contains xs x ≡ true → test x ≡ false) → filter test xs ≡ []
none_pass test [] h = refl
none_pass test (x ∷ xs) h =
    ap (λ (b : Bool). cond b (x ∷ filter test xs) (filter test xs)) (h x (ap (λ (b : Bool). b || contains xs x) (equal x x refl)))
    ∙ none_pass test xs (λ y e. h y (behind (x == y) (contains xs y) e))
  where
    behind : (b c : Bool) → c ≡ true → (b || c) ≡ true
    behind true c e = refl
    behind false c e = e

no_more : {A : Type 0} (xs : List A) → length xs ≤ 0 → xs ≡ []
no_more [] le = refl
no_more (x ∷ xs) le = absurd (omega (arith, le))

-- ---- what stays

owes_parts : (f g : Facts) (k p : ℕ) → has_nothing_to_learn_or_drop g k p ≡ has_nothing_to_learn_or_drop (record f { me = g.me; factor = g.factor; exchange = g.exchange; store = g.store; batches = g.batches; bits = g.bits }) k p
unfolding has_nothing_to_learn_or_drop
owes_parts f g zero p = refl
owes_parts f g (suc k) p = ap (λ (b : Bool). not (is_to_learn g (list_at g p) p || is_to_drop g (list_at g p) p) && b) (owes_parts f g k (p + 1))

owes_stay : (f g : Facts) → LeavesAsIs f g → (k : ℕ) → has_nothing_to_learn_or_drop g k 0 ≡ has_nothing_to_learn_or_drop f k 0
owes_stay f g s k =
    owes_parts f g k 0
    ∙ ap (λ (a : ℕ). has_nothing_to_learn_or_drop (record f { me = a; factor = g.factor; exchange = g.exchange; store = g.store; batches = g.batches; bits = g.bits }) k 0) s.me
    ∙ ap (λ (a : ℕ). has_nothing_to_learn_or_drop (record f { factor = a; exchange = g.exchange; store = g.store; batches = g.batches; bits = g.bits }) k 0) s.factor
    ∙ ap (λ (a : Exchange). has_nothing_to_learn_or_drop (record f { exchange = a; store = g.store; batches = g.batches; bits = g.bits }) k 0) s.exchange
    ∙ ap (λ (a : Store). has_nothing_to_learn_or_drop (record f { store = a; batches = g.batches; bits = g.bits }) k 0) s.store
    ∙ ap (λ (a : Targets). has_nothing_to_learn_or_drop (record f { batches = a; bits = g.bits }) k 0) s.batches
    ∙ ap (λ (a : Bits). has_nothing_to_learn_or_drop (record f { bits = a }) k 0) s.bits

knows_stay : (f g : Facts) → LeavesAsIs f g → (k : ℕ) → knows_all_settled f k 0 ≡ true → knows_all_settled g k 0 ≡ true
knows_stay f g s k h = all_settled_grows f g (bits_same f.bits g.bits s.bits) (ap (λ (e : Exchange). e.view) s.exchange) (ap (λ (e : Exchange). e.rows) s.exchange) (ap (λ (e : Exchange). e.exchanged) s.exchange) k 0 h

-- ---- the round

-- what a group is like that has come to rest but for what is to be learnt and dropped
pub record RestRound (n : ℕ) (ns gs : List ℕ) (g : ℕ) (set : List Member) (k : ClusterKey) (w : World) : Type 0 where
  pub ready : Ready ns gs g set w
  pub steady : Steady gs g set k w
  pub over : Exchanged gs w
  pub rows : RowsThere gs w
  pub closed : NoneOpen gs w
  pub out : NothingOut gs w
  pub empty : AtMostPending 0 gs w
  pub silent : KindsIn gs [] w
  pub settled : Settling n gs w
  pub learning : Learning n gs w

module _ (n : ℕ) (ns gs : List ℕ) (g : ℕ) (set : List Member) (k : ClusterKey) (w v : World) (r : Rounded n w v) (h : RestRound n ns gs g set k w) where
  calm : Undisturbed n ns gs w v r
  calm = undisturbed n ns gs g set w v r h.ready (steady_rests ns gs g set k w h.ready h.steady)

  others_of : (m : ℕ) → has_node gs m ≡ true → others (w.facts m) ≡ agreement.others_among m set
  others_of m here = ap (λ (y : ℕ). agreement.others_among y (members_of (w.facts m).exchange.view)) (h.ready.base.named m) ∙ ap (λ (o : Option View). agreement.others_among m (members_of o)) (h.steady.views m here)

  idle : (m : ℕ) → has_node gs m ≡ true → Idle n (w.facts m)
  idle m here = record {
    up = h.ready.base.up m (h.ready.group.up m here);
    none = aged_none (w.facts m) (h.ready.none m here);
    asks = calm.asks m here;
    rows =
        ap (λ (xs : List ℕ). filter (lacks (w.facts m).exchange.rows) xs) (others_of m here)
        ∙ none_pass (lacks (w.facts m).exchange.rows) (agreement.others_among m set) (λ x e. h.rows m x here (other_here gs g set h.ready.roll m x e));
    closed = h.closed m here;
    targets = λ t i. (no_more t.pending (h.empty m here t i), h.out m here t i);
    settled = h.settled m here;
  }

  -- ---- what comes

  kinds_ticks : KindsIn gs (1 ∷ []) r.ticks_end
  kinds_ticks m here a x there =
      go (among_either (Gets a x) (inbox w m) (arriving_at r.ticks_end m calm.ticked.posted) (subst (λ (is : List Input). Among is (Gets a x)) (calm.ticked.inbox m) there))
    where
      sent : FromGroup gs a m x (sent_at n (w.clocks a) (w.facts a) Ticks) → contains (1 ∷ []) (kind x) ≡ true
      sent s = ap (λ (y : ℕ). contains (1 ∷ []) y) (tick_quiet n (w.clocks a) (w.facts a) (idle a s.sender) m x s.sent)

      go : Among (inbox w m) (Gets a x) ⊎ Among (arriving_at r.ticks_end m calm.ticked.posted) (Gets a x) → contains (1 ∷ []) (kind x) ≡ true
      go (inl i) = differ (h.silent m here a x i) refl
      go (inr i) = sent (from_ticks n ns gs w r.ticks_end h.ready.group calm.ticked a m x here i)

  kinds_first : KindsIn gs [] r.first_end
  kinds_first = flow_kinds n ns gs (1 ∷ []) r.ticks_end r.first_end calm.group_ticks r.first kinds_ticks

  -- nothing comes to the group after the first flow
  pub silent_first : (m : ℕ) → has_node gs m ≡ true → inbox r.first_end m ≡ []
  silent_first = nothing_comes gs r.first_end kinds_first

  pub silent_second : (m : ℕ) → has_node gs m ≡ true → inbox r.second_end m ≡ []
  silent_second = nothing_comes gs r.second_end (flow_kinds n ns gs [] r.first_end r.second_end calm.group_first r.second kinds_first)

  pub silent_third : (m : ℕ) → has_node gs m ≡ true → inbox r.third_end m ≡ []
  silent_third =
      nothing_comes gs r.third_end
      (flow_kinds n ns gs [] r.second_end r.third_end calm.group_second r.third (flow_kinds n ns gs [] r.first_end r.second_end calm.group_first r.second kinds_first))

  -- ---- what it leaves

  told : (m : ℕ) → has_node gs m ≡ true → r.ticks_end.facts m ≡ progressing n (w.facts m)
  told m here =
      calm.ticked.facts m
      ∙ ap (λ (b : Bool). served n (w.clocks m) (w.facts m) (ticks_if b)) (h.ready.group.up m here)
      ∙ quiet_facts n (w.clocks m) (w.facts m) (idle m here)

  one_kind : (j : ℕ) → contains (1 ∷ []) j ≡ true → j ≡ 1
  one_kind j e = sym (num_same 1 j (first (1 == j) e))
    where
      first : (b : Bool) → (b || false) ≡ true → b ≡ true
      first true i = refl
      first false i = i

  first_stays : (m : ℕ) → has_node gs m ≡ true → LeavesAsIs (progressing n (w.facts m)) (r.first_end.facts m)
  first_stays m here =
      subst (λ (f : Facts). LeavesAsIs f (r.first_end.facts m)) (told m here)
      (subst (λ (f : Facts). LeavesAsIs (r.ticks_end.facts m) f) (sym (r.first.facts m))
      (beats_stay n (r.ticks_end.clocks m) (inbox r.ticks_end m) (r.ticks_end.facts m) (gets_inbox r.ticks_end m) (λ a x i. one_kind (kind x) (kinds_ticks m here a x i))))

  same_on : (u z : World) (m : ℕ) → Flowed n u z → inbox u m ≡ [] → z.facts m ≡ u.facts m
  same_on u z m f e = f.facts m ∙ ap (λ (is : List Input). served n (u.clocks m) (u.facts m) is) e

  end_stays : (m : ℕ) → has_node gs m ≡ true → LeavesAsIs (progressing n (w.facts m)) (v.facts m)
  end_stays m here =
      subst (λ (f : Facts). LeavesAsIs (progressing n (w.facts m)) f)
      (sym (same_on r.third_end v m r.fourth (silent_third m here) ∙ same_on r.second_end r.third_end m r.third (silent_second m here) ∙ same_on r.first_end r.second_end m r.second (silent_first m here)))
      (first_stays m here)

  -- all know all settled
  pub settled_end : Settling n gs v
  settled_end m here = knows_stay (progressing n (w.facts m)) (v.facts m) (end_stays m here) n (knows_telling n (w.facts m) (idle m here))

  settles : (m : ℕ) → has_node gs m ≡ true → progressing n (w.facts m) ≡ noted None (after_ages (w.facts m)) (settling_from n 0 (after_ages (w.facts m)))
  settles m here =
      ap (λ (f : Facts). noted None f (settling_due n f)) (rests_proposed (w.facts m) (idle m here).none (idle m here).asks)
      ∙ ap (λ (b : Bool). noted None (after_ages (w.facts m)) (if b then settling_from n 0 (after_ages (w.facts m)) else [])) (h.over m here)

  -- and have nothing to learn or drop
  pub owes_end : (m : ℕ) → has_node gs m ≡ true → has_nothing_to_learn_or_drop (v.facts m) n 0 ≡ true
  owes_end m here =
      owes_stay (progressing n (w.facts m)) (v.facts m) (end_stays m here) n
      ∙ ap (λ (f : Facts). has_nothing_to_learn_or_drop f n 0) (settles m here)
      ∙ settled_owes n (after_ages (w.facts m)) (λ p lt. h.learning m here p lt)
