-- From the fifteenth round on all of a group are in one view of just it.
use Rattle.std.proofs.Common.{◌≡◌, ℕ, zero, suc, ◌+◌, ◌-◌, ◌≤◌, Bool, true, false, List, Option, Some, refl, sym, ap, subst, ◌∙◌, inl, inr, arith}
use Rattle.cluster_types.specs.declared.cluster_key.ClusterKey.{ClusterKey}
use Rattle.cluster_types.specs.declared.member.Member.{Member}
use Rattle.cluster_types.specs.declared.member.Role.{Role}
use Rattle.wire_messages.specs.Keys.{IsKeyField, IsKeyOrNone}
use Rattle.node_rules.specs.Agreement.{Proposal, proposes_set}
use Rattle.node_rules.specs.Facts.{Facts}
use Rattle.node_rules.specs.Notes.{after_ages, neighbours}
use Rattle.journal_readings.specs.Lines.{has_node}
use Rattle.cluster_rules.specs.World.{World}
use Rattle.key_laws.specs.Order.{KeyAtMost}
use Rattle.key_laws.specs.Sound.{RisesByNumber, Sound, ProposalStands}
use Rattle.key_laws.specs.Traced.{Traced, facts_of}
use Rattle.calm_laws.specs.Acts.{served}
use Rattle.calm_laws.specs.Flows.{Base, Foreign, Fresh, HeardAs, Rounded, Speaks, Ticked, ticks_if, world_at}
use Rattle.calm_laws.specs.Ground.{Agreed, Basis}
use Rattle.calm_laws.specs.Group.{Away, Group}
use Rattle.calm_laws.specs.Laws.{AreIds, HasLaws, is_to_propose}
use Rattle.calm_laws.specs.Stances.{Stance, stance_of, ticks}
use Rattle.calm_laws.specs.Turns.{Cleared, Fit, Joined, Lacking, Listens, NoneProposes, Ordered, Ready, Roster, Sees, SeenAll, Steady}
use Rattle.calm_laws.proofs.Beginning.{key_next}
use Rattle.calm_laws.proofs.Company.{group_kept}
use Rattle.calm_laws.proofs.Hearing.{round_frame}
use Rattle.calm_laws.proofs.Lacks.{lacks_aged, lacks_tick}
use Rattle.calm_laws.proofs.Lawfully.{lawful_round}
use Rattle.calm_laws.proofs.Resting.{round_cleared}
use Rattle.calm_laws.proofs.Seeing.{seen_after}
use Rattle.calm_laws.proofs.Sees.{sees_group}
use Rattle.calm_laws.proofs.Sequence.{at_start, base_after, next_round, nodes_forget, nodes_hear, one_more, role_stays}
use Rattle.calm_laws.proofs.SetStays.{round_set}
use Rattle.calm_laws.proofs.Steadying.{steady_proposed, steady_quiet, steady_step}
use Rattle.calm_laws.proofs.TickTurns.{tick_turns}
use Rattle.calm_laws.proofs.Within.{flow_lacks, within}

-- ---- what the laws of keys say of the group

fit_of : (gs : List ℕ) (w : World) → HasLaws w → Fit gs w
fit_of gs w h = record { promised = λ m here. subst (λ (u : World). IsKeyOrNone (u.facts m).agreement.promised) h.is (h.sound.nodes m).agrees.promised.field; proposed = λ m here p e. key m p e }
  where
    stood : (t : Traced) → Sound t → (m : ℕ) (p : Proposal) → (facts_of t m).agreement.proposal ≡ Some p → IsKeyField p.key
    stood t s m p e =
        (s.lists p.key p.members (subst (λ (o : Option Proposal). ProposalStands t m (facts_of t m).agreement.promised (facts_of t m).agreement.last o) e (s.nodes m).agrees.proposal).list).key

    key : (m : ℕ) (p : Proposal) → (w.facts m).agreement.proposal ≡ Some p → IsKeyField p.key
    key m p e = stood h.trace h.sound m p (subst (λ (u : World). (u.facts m).agreement.proposal ≡ Some p) (sym h.is) e)

ordered_of : (gs : List ℕ) (w : World) → HasLaws w → Ordered gs w
ordered_of gs w h m here = subst (λ (u : World). KeyAtMost (u.facts m).agreement.last (u.facts m).agreement.promised) h.is (h.sound.nodes m).agrees.ordered

rises_of : (w : World) → HasLaws w → (m : ℕ) → RisesByNumber (w.facts m).hearing.heard
rises_of w h m = subst (λ (u : World). RisesByNumber (u.facts m).hearing.heard) h.is (h.sound.nodes m).hears.rises

-- ---- round by round

module _ (n : ℕ) (ns gs : List ℕ) (g : ℕ) (set : List Member) (w : World) (most : ℕ) (x : Basis n ns gs g set w most) where
  abbrev W : ℕ → World
  W k = world_at n w k

  pub base_at : (k : ℕ) → k ≤ most → Base ns (world_at n w k)
  base_at k le = base_after n ns w most x.plain k le

  pub round_at : (k : ℕ) → suc k ≤ most → Rounded n (world_at n w k) (world_at n w (suc k))
  round_at k le = next_round n ns w k (base_at k (omega (arith, le))) (x.plain.placed k (omega (arith, le)))

  ticked_at : (k : ℕ) (le : suc k ≤ most) → Ticked n (world_at n w k) (round_at k le).ticks_end ns
  ticked_at k le = subst (λ (xs : List ℕ). Ticked n (world_at n w k) (round_at k le).ticks_end xs) (base_at k (omega (arith, le))).ups (round_at k le).ticks

  pub speaks_at : (k : ℕ) → suc k ≤ most → (a : ℕ) → has_node ns a ≡ true → Speaks ((world_at n w k).facts a)
  speaks_at k le = x.plain.speaks k (omega (arith, le))

  lawful_at : (k : ℕ) → k ≤ most → HasLaws (world_at n w k)
  lawful_at zero le = subst HasLaws (sym (at_start n w)) x.lawful
  lawful_at (suc k) le =
      subst HasLaws (sym (one_more n k w))
      (lawful_round n (world_at n w k) (subst AreIds (sym (base_at k (omega (arith, le))).ups) x.ids) (lawful_at k (omega (arith, le))))

  group_at : (k : ℕ) → k ≤ most → Group ns gs (world_at n w k)
  group_at zero le = subst (λ (u : World). Group ns gs u) (sym (at_start n w)) x.group
  group_at (suc k) le = group_kept ns gs (world_at n w k) (world_at n w (suc k)) (round_frame n (world_at n w k) (world_at n w (suc k)) (round_at k le)) (group_at k (omega (arith, le)))

  roster_at : (k : ℕ) → k ≤ most → Roster gs set (world_at n w k)
  roster_at k le = record {
    table = x.roster.table;
    rises = x.roster.rises;
    list = x.roster.list;
    here = λ m here. x.roster.here m here ∙ ap (λ (r : Role). Some r) (sym (role_stays n ns w most x.plain m k le));
    others = x.roster.others;
  }

  foreign : (a m : ℕ) → has_node gs a ≡ false → has_node gs m ≡ true → Foreign ns w a m
  foreign a m e here = go (x.group.away a m e here)
    where
      go : Away ns w a m → Foreign ns w a m
      go (inl i) = inr i
      go (inr i) = inl i.out

  listens_at : (k : ℕ) → 11 ≤ k → k ≤ most → Listens gs (world_at n w k)
  listens_at zero ge le = absurd (omega (arith, ge))
  listens_at (suc zero) ge le = absurd (omega (arith, ge))
  listens_at (suc (suc k)) ge le = record {
    near = λ a m sender receiver d.
        subst (λ (r : Role). HeardAs (Fresh r m) ((world_at n w (suc (suc k))).facts m).hearing.heard a)
        (role_stays n ns w most x.plain a (suc k) (omega (arith, le)) ∙ sym (role_stays n ns w most x.plain a (suc (suc k)) le))
        (nodes_hear n ns w most x.plain a m (x.group.near a m sender receiver d) (x.group.near m a receiver sender (λ e. d (sym e))) k le);
    others = λ a m e here. nodes_forget n ns w most x.plain a m (x.group.up m here) (foreign a m e here) (suc k) (omega (arith, ge)) le;
    own = λ m here. x.own (suc (suc k)) le m here;
    rises = λ m here. rises_of (world_at n w (suc (suc k))) (lawful_at (suc (suc k)) le) m;
  }

  sees_at : (k : ℕ) → 11 ≤ k → k ≤ most → Sees gs set (world_at n w k)
  sees_at k ge le m here = sees_group gs set (world_at n w k) (roster_at k le) (listens_at k ge le) m here ((base_at k le).named m)

  set_at : (k : ℕ) → 11 ≤ k → suc k ≤ most → ((world_at n w (suc k)).facts g).hearing.set ≡ Some set
  set_at k ge le =
      round_set n ns (world_at n w k) (world_at n w (suc k)) (base_at k (omega (arith, le))) (round_at k le) g (x.group.up g x.roll.lead)
      ∙ ap (λ (ms : List Member). Some ms) (sees_at k ge (omega (arith, le)) g x.roll.lead)

  cleared_at : (k : ℕ) → suc k ≤ most → Cleared gs (world_at n w (suc k))
  cleared_at k le = round_cleared n ns gs (world_at n w k) (world_at n w (suc k)) (group_at k (omega (arith, le))) (round_at k le) (base_at k (omega (arith, le))).ups (ticked_at k le)

  -- who proposes lacks an answer
  lacking_ticks : (k : ℕ) (le : suc k ≤ most) (m : ℕ) → has_node gs m ≡ true → Lacking m ((world_at n w k).facts m).agreement.proposal → Lacking m ((round_at k le).ticks_end.facts m).agreement.proposal
  lacking_ticks k le m here h =
      let f : Facts = (world_at n w k).facts m in
      let b : Base ns (world_at n w k) = base_at k (omega (arith, le)) in
      let s : Stance = stance_of (after_ages f) in
      let then : stance_of ((round_at k le).ticks_end.facts m) ≡ ticks m s (neighbours (after_ages f)) s.agreement.proposal (is_to_propose (after_ages f)) =
      ap (λ (y : Facts). stance_of y) ((ticked_at k le).facts m ∙ ap (λ (c : Bool). served n ((world_at n w k).clocks m) f (ticks_if c)) (x.group.up m here))
      ∙ tick_turns n ((world_at n w k).clocks m) f (b.up m (x.group.up m here)) (x.asks k (omega (arith, le)) m here)
      ∙ ap (λ (y : ℕ). ticks y s (neighbours (after_ages f)) s.agreement.proposal (is_to_propose (after_ages f))) (b.named m) in
      subst (λ (z : Stance). Lacking m z.agreement.proposal) (sym then)
      (lacks_tick m s (neighbours (after_ages f)) s.agreement.proposal (is_to_propose (after_ages f)) refl (lacks_aged m (proposes_set f.agreement.proposal (neighbours (after_ages f))) f.agreement.proposal h))

  lacking_at : (k : ℕ) → k ≤ most → (m : ℕ) → has_node gs m ≡ true → Lacking m ((world_at n w k).facts m).agreement.proposal
  lacking_at zero le m here = subst (λ (u : World). Lacking m (u.facts m).agreement.proposal) (sym (at_start n w)) (x.lacking m here)
  lacking_at (suc k) le m here =
      let r : Rounded n (world_at n w k) (world_at n w (suc k)) = round_at k le in
      flow_lacks n r.third_end (world_at n w (suc k)) m m r.fourth (flow_lacks n r.second_end r.third_end m m r.third (flow_lacks n r.first_end r.second_end m m r.second (flow_lacks n r.ticks_end r.first_end m m r.first
      (lacking_ticks k le m here (lacking_at k (omega (arith, le)) m here)))))

  joined_at : (k : ℕ) → 11 ≤ k → k ≤ most → Joined ns gs g set (world_at n w k)
  joined_at zero ge le = absurd (omega (arith, ge))
  joined_at (suc k) ge le = record {
    base = base_at (suc k) le;
    group = group_at (suc k) le;
    roll = x.roll;
    sees = sees_at (suc k) ge le;
    cleared = cleared_at k le;
    fit = fit_of gs (world_at n w (suc k)) (lawful_at (suc k) le);
    lacking = lacking_at (suc k) le;
  }

  -- nobody proposes as a round ends
  none_at : (k : ℕ) → 11 ≤ k → suc k ≤ most → NoneProposes gs (world_at n w (suc k))
  none_at k ge le = within n ns gs g set (world_at n w k) (world_at n w (suc k)) (joined_at k ge (omega (arith, le))) (round_at k le) (x.asks k (omega (arith, le)))

  pub ready_at : (k : ℕ) → 12 ≤ k → k ≤ most → Ready ns gs g set (world_at n w k)
  ready_at zero ge le = absurd (omega (arith, ge))
  ready_at (suc k) ge le = record {
    base = base_at (suc k) le;
    group = group_at (suc k) le;
    roll = x.roll;
    sees = sees_at (suc k) (omega (arith, ge)) le;
    none = none_at k (omega (arith, ge)) le;
    cleared = cleared_at k le;
    ordered = ordered_of gs (world_at n w (suc k)) (lawful_at (suc k) le);
  }

  seen_at : (k : ℕ) → 12 ≤ k → suc k ≤ most → SeenAll gs g (world_at n w (suc k))
  seen_at k ge le = seen_after n ns gs g set (world_at n w k) (world_at n w (suc k)) (round_at k le) (ready_at k ge (omega (arith, le))) (speaks_at k le)

  -- ---- the view

  steady_next : (k : ClusterKey) (i : ℕ) → 12 ≤ i → suc i ≤ most → Steady gs g set k (world_at n w i) → Steady gs g set k (world_at n w (suc i))
  steady_next k i ge le s =
      steady_step n ns gs g set k (world_at n w i) (world_at n w (suc i)) (round_at i le) (ready_at i ge (omega (arith, le))) (speaks_at i le) (listens_at (suc i) (omega (arith, ge)) le) s

  steady_by : (i : ℕ) → 12 ≤ i → suc (suc (suc i)) ≤ most → (k : ClusterKey) × Steady gs g set k (world_at n w (suc (suc (suc i))))
  steady_by i ge le = first (is_to_propose (after_ages ((world_at n w (suc i)).facts g))) refl (is_to_propose (after_ages ((world_at n w (suc (suc i))).facts g))) refl
    where
      ready : Ready ns gs g set (world_at n w (suc i))
      ready = ready_at (suc i) (omega (arith, ge)) (omega (arith, le))

      ready_then : Ready ns gs g set (world_at n w (suc (suc i)))
      ready_then = ready_at (suc (suc i)) (omega (arith, ge)) (omega (arith, le))

      first : (b : Bool) → is_to_propose (after_ages ((world_at n w (suc i)).facts g)) ≡ b → (c : Bool) → is_to_propose (after_ages ((world_at n w (suc (suc i))).facts g)) ≡ c → (k : ClusterKey) × Steady gs g set k (world_at n w (suc (suc (suc i))))
      first true e c f = (
        key_next g (world_at n w (suc i)),
        steady_next (key_next g (world_at n w (suc i))) (suc (suc i)) (omega (arith, ge)) le
            (steady_proposed n ns gs g set (world_at n w (suc i)) (world_at n w (suc (suc i))) (round_at (suc i) (omega (arith, le))) ready (seen_at i ge (omega (arith, le))) e),
      )
      first false e true f = (
        key_next g (world_at n w (suc (suc i))),
        steady_proposed n ns gs g set (world_at n w (suc (suc i))) (world_at n w (suc (suc (suc i)))) (round_at (suc (suc i)) le) ready_then (seen_at (suc i) (omega (arith, ge)) (omega (arith, le))) f,
      )
      first false e false f =
          steady_quiet n ns gs g set (world_at n w (suc i)) (world_at n w (suc (suc i))) (world_at n w (suc (suc (suc i)))) (round_at (suc i) (omega (arith, le))) (round_at (suc (suc i)) le) ready ready_then
          (speaks_at (suc i) (omega (arith, le))) (speaks_at (suc (suc i)) le) (listens_at (suc i) (omega (arith, ge)) (omega (arith, le))) (listens_at (suc (suc (suc i))) (omega (arith, ge)) le)
          (lawful_at (suc (suc i)) (omega (arith, le))) (set_at i (omega (arith, ge)) (omega (arith, le))) (set_at (suc i) (omega (arith, ge)) (omega (arith, le))) (x.roomy (suc (suc i)) (omega (arith, le))) e f

  steady_on : (k : ClusterKey) (i j : ℕ) → 12 ≤ i → Steady gs g set k (world_at n w i) → i + j ≤ most → Steady gs g set k (world_at n w (i + j))
  steady_on k i zero ge s le = subst (λ (y : ℕ). Steady gs g set k (world_at n w y)) (sym (plus_zero i)) s
    where
      plus_zero : (i : ℕ) → i + 0 ≡ i
      plus_zero i = omega arith
  steady_on k i (suc j) ge s le =
      subst (λ (y : ℕ). Steady gs g set k (world_at n w y)) (sym (plus_suc i j))
      (steady_next k (i + j) (omega (arith, ge)) (omega (arith, le)) (steady_on k i j ge s (omega (arith, le))))
    where
      plus_suc : (i j : ℕ) → i + suc j ≡ suc (i + j)
      plus_suc i j = omega arith

pub agreed : (n : ℕ) (ns gs : List ℕ) (g : ℕ) (set : List Member) (w : World) (most : ℕ) → Basis n ns gs g set w most → 15 ≤ most → Agreed n gs g set w most
agreed n ns gs g set w most x enough =
    let first : (k : ClusterKey) × Steady gs g set k (world_at n w 15) = steady_by n ns gs g set w most x 12 (omega arith) enough in
    record {
      key = first.0;
      steady = λ k ge le. subst (λ (y : ℕ). Steady gs g set first.0 (world_at n w y)) (from k ge) (steady_on n ns gs g set w most x first.0 15 (k - 15) (omega arith) first.1 (omega (arith, ge, le)));
    }
  where
    from : (k : ℕ) → 15 ≤ k → 15 + (k - 15) ≡ k
    from k ge = omega (arith, ge)
