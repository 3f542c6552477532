-- After agreement: the exchange ends and transactions close in the sixteenth round, and what is pending falls from the
-- seventeenth on.
use Rattle.std.proofs.Common.{◌≡◌, ℕ, zero, suc, ◌+◌, ◌≤◌, List, sym, subst, arith, true}
use Rattle.cluster_types.specs.declared.member.Member.{Member}
use Rattle.node_rules.specs.Standing.{is_done}
use Rattle.node_rules.specs.Transactions.{Transaction}
use Rattle.journal_readings.specs.Lines.{has_node}
use Rattle.cluster_rules.specs.World.{World}
use Rattle.run_laws.specs.Tied.{Among}
use Rattle.calm_laws.specs.Exchanges.{Exchanged, RowsThere}
use Rattle.calm_laws.specs.Flows.{world_at}
use Rattle.calm_laws.specs.Ground.{Agreed, Basis, Provisions}
use Rattle.calm_laws.specs.Handing.{AtMostPending, Handing, LegibleRound, NothingOut}
use Rattle.calm_laws.specs.Transacting.{NoneOpen, Waiting}
use Rattle.calm_laws.specs.Turns.{Ready}
use Rattle.calm_laws.proofs.Agreed.{ready_at, round_at}
use Rattle.calm_laws.proofs.Closing.{open_closes}
use Rattle.calm_laws.proofs.Exchanging.{exchange_ends, exchange_stays, rows_come, rows_stay}
use Rattle.calm_laws.proofs.Handovers.{HandRound}
use Rattle.calm_laws.proofs.Pending.{done_then, handing_kept, nothing_out, pending_falls}

none_waits : (gs : List ℕ) (w : World) → NoneOpen gs w → Waiting gs w
none_waits gs w h m here t there = absurd (subst (λ (ts : List Transaction). Among ts t) (h m here) there)

module _ (n : ℕ) (ns gs : List ℕ) (g : ℕ) (set : List Member) (w : World) (most : ℕ) (x : Basis n ns gs g set w most) (a : Agreed n gs g set w most) (p : Provisions n gs w most a.key) where
  ready : (i : ℕ) → 12 ≤ i → i ≤ most → Ready ns gs g set (world_at n w i)
  ready i ge le = ready_at n ns gs g set w most x i ge le

  -- all have finished the exchange at the end of the sixteenth round
  exchanged_first : 16 ≤ most → Exchanged gs (world_at n w 16)
  exchanged_first enough =
      exchange_ends n ns gs g set a.key (world_at n w 15) (world_at n w 16) (round_at n ns gs g set w most x 15 enough)
      (record { ready = ready 15 (omega arith) (omega (arith, enough)); steady = a.steady 15 (omega arith) (omega (arith, enough)); rows = p.rows })

  -- and from then on
  pub exchanged_on : (j : ℕ) → 16 + j ≤ most → Exchanged gs (world_at n w (16 + j))
  exchanged_on zero le = exchanged_first (omega (arith, le))
  exchanged_on (suc j) le =
      subst (λ (i : ℕ). Exchanged gs (world_at n w i)) (sym (next j))
      (exchange_stays n ns gs g set a.key (world_at n w (16 + j)) (world_at n w (suc (16 + j))) (round_at n ns gs g set w most x (16 + j) (omega (arith, le))) (ready (16 + j) (omega arith) (omega (arith, le))) (a.steady (16 + j) (omega arith) (omega (arith, le)))
      (exchanged_on j (omega (arith, le))))
    where
      next : (j : ℕ) → 16 + suc j ≡ suc (16 + j)
      next j = omega arith

  -- each has each row then, and from then on
  pub rows_on : (j : ℕ) → 16 + j ≤ most → RowsThere gs (world_at n w (16 + j))
  rows_on zero le =
      rows_come n ns gs g set a.key (world_at n w 15) (world_at n w 16) (round_at n ns gs g set w most x 15 (omega (arith, le)))
      (record { ready = ready 15 (omega arith) (omega (arith, le)); steady = a.steady 15 (omega arith) (omega (arith, le)); rows = p.rows })
  rows_on (suc j) le =
      subst (λ (i : ℕ). RowsThere gs (world_at n w i)) (sym (next j))
      (rows_stay n ns gs g set a.key (world_at n w (16 + j)) (world_at n w (suc (16 + j))) (round_at n ns gs g set w most x (16 + j) (omega (arith, le))) (ready (16 + j) (omega arith) (omega (arith, le))) (a.steady (16 + j) (omega arith) (omega (arith, le)))
      (rows_on j (omega (arith, le))))
    where
      next : (j : ℕ) → 16 + suc j ≡ suc (16 + j)
      next j = omega arith

  -- no transaction is open at the end of the sixteenth round
  none_open_first : 16 ≤ most → NoneOpen gs (world_at n w 16)
  none_open_first enough =
      let l : LegibleRound n gs (world_at n w 15) (world_at n w 16) = p.rounds 15 (omega arith) enough in
      open_closes n ns gs g set a.key (world_at n w 15) (world_at n w 16) l.round
      (record { ready = ready 15 (omega arith) (omega (arith, enough)); steady = a.steady 15 (omega arith) (omega (arith, enough)); waiting = p.waiting; legible = l.legible })

  -- and from then on
  pub none_open_on : (j : ℕ) → 16 + j ≤ most → NoneOpen gs (world_at n w (16 + j))
  none_open_on zero le = none_open_first (omega (arith, le))
  none_open_on (suc j) le =
      let l : LegibleRound n gs (world_at n w (16 + j)) (world_at n w (suc (16 + j))) = p.rounds (16 + j) (omega arith) (omega (arith, le)) in
      subst (λ (i : ℕ). NoneOpen gs (world_at n w i)) (sym (next j))
      (open_closes n ns gs g set a.key (world_at n w (16 + j)) (world_at n w (suc (16 + j))) l.round
      (record { ready = ready (16 + j) (omega arith) (omega (arith, le)); steady = a.steady (16 + j) (omega arith) (omega (arith, le)); waiting = none_waits gs (world_at n w (16 + j)) (none_open_on j (omega (arith, le))); legible = l.legible }))
    where
      next : (j : ℕ) → 16 + suc j ≡ suc (16 + j)
      next j = omega arith

  -- a round in which the group hands on
  pub hands : (j : ℕ) → suc (16 + j) ≤ most → (l : LegibleRound n gs (world_at n w (16 + j)) (world_at n w (suc (16 + j)))) → Handing gs a.key (world_at n w (16 + j)) → HandRound n ns gs g set a.key (world_at n w (16 + j)) (world_at n w (suc (16 + j))) l.round
  hands j le l h = record {
    ready = ready (16 + j) (omega arith) (omega (arith, le));
    steady = a.steady (16 + j) (omega arith) (omega (arith, le));
    over = exchanged_on j (omega (arith, le));
    handing = h;
    legible = l.legible;
  }

  pub legible : (j : ℕ) → suc (16 + j) ≤ most → LegibleRound n gs (world_at n w (16 + j)) (world_at n w (suc (16 + j)))
  legible j le = p.rounds (16 + j) (omega arith) le

  pub handing_on : (j : ℕ) → 16 + j ≤ most → Handing gs a.key (world_at n w (16 + j))
  handing_on zero le = p.handing
  handing_on (suc j) le =
      let l : LegibleRound n gs (world_at n w (16 + j)) (world_at n w (suc (16 + j))) = legible j (omega (arith, le)) in
      subst (λ (i : ℕ). Handing gs a.key (world_at n w i)) (sym (next j))
      (handing_kept n ns gs g set a.key (world_at n w (16 + j)) (world_at n w (suc (16 + j))) l.round (hands j (omega (arith, le)) l (handing_on j (omega (arith, le)))))
    where
      next : (j : ℕ) → 16 + suc j ≡ suc (16 + j)
      next j = omega arith

  -- no batch is out at the end of the seventeenth round and of each later one
  pub out_on : (j : ℕ) → suc (16 + j) ≤ most → NothingOut gs (world_at n w (suc (16 + j)))
  out_on j le =
      let l : LegibleRound n gs (world_at n w (16 + j)) (world_at n w (suc (16 + j))) = legible j le in
      nothing_out n ns gs g set a.key (world_at n w (16 + j)) (world_at n w (suc (16 + j))) l.round (hands j le l (handing_on j (omega (arith, le))))

  -- what is pending falls in each round
  pub falls_on : (j q : ℕ) → suc (suc (16 + j)) ≤ most → AtMostPending (suc q) gs (world_at n w (suc (16 + j))) → AtMostPending q gs (world_at n w (suc (suc (16 + j))))
  falls_on j q le h =
      let l : LegibleRound n gs (world_at n w (16 + suc j)) (world_at n w (suc (16 + suc j))) = legible (suc j) (omega (arith, le)) in
      subst (λ (i : ℕ). AtMostPending q gs (world_at n w (suc i))) (next j)
      (pending_falls n ns gs g set a.key (world_at n w (16 + suc j)) (world_at n w (suc (16 + suc j))) l.round (hands (suc j) (omega (arith, le)) l (handing_on (suc j) (omega (arith, le)))) q
      (subst (λ (i : ℕ). NothingOut gs (world_at n w i)) (sym (next j)) (out_on j (omega (arith, le)))) (p.held (16 + suc j) (omega arith) (omega (arith, le)))
      (subst (λ (i : ℕ). AtMostPending (suc q) gs (world_at n w i)) (sym (next j)) h))
    where
      next : (j : ℕ) → 16 + suc j ≡ suc (16 + j)
      next j = omega arith

  -- so that nothing is pending after as many rounds as most were pending to one
  pub empties : (q j : ℕ) → suc (16 + j) + q ≤ most → AtMostPending q gs (world_at n w (suc (16 + j))) → AtMostPending 0 gs (world_at n w (suc (16 + j) + q))
  empties zero j le h = subst (λ (i : ℕ). AtMostPending 0 gs (world_at n w i)) (same j) h
    where
      same : (j : ℕ) → suc (16 + j) ≡ suc (16 + j) + 0
      same j = omega arith
  empties (suc q) j le h =
      subst (λ (i : ℕ). AtMostPending 0 gs (world_at n w i)) (later q j)
      (empties q (suc j) (omega (arith, le)) (subst (λ (i : ℕ). AtMostPending q gs (world_at n w i)) (next j) (falls_on j q (omega (arith, le)) h)))
    where
      next : (j : ℕ) → suc (suc (16 + j)) ≡ suc (16 + suc j)
      next j = omega arith

      later : (q j : ℕ) → suc (16 + suc j) + q ≡ suc (16 + j) + suc q
      later q j = omega arith

-- counted from the end of the seventeenth round
pub emptied : (n : ℕ) (ns gs : List ℕ) (g : ℕ) (set : List Member) (w : World) (most : ℕ) → Basis n ns gs g set w most → (a : Agreed n gs g set w most) → Provisions n gs w most a.key → (q : ℕ) → 17 + q ≤ most
    → AtMostPending q gs (world_at n w 17) → AtMostPending 0 gs (world_at n w (17 + q))
emptied n ns gs g set w most x a p q le h = empties n ns gs g set w most x a p q 0 le h

-- and then each node is done at each partition
pub done_after : (n : ℕ) (ns gs : List ℕ) (g : ℕ) (set : List Member) (w : World) (most : ℕ) → Basis n ns gs g set w most → (a : Agreed n gs g set w most) → Provisions n gs w most a.key → (q : ℕ) → 17 + q ≤ most
    → AtMostPending q gs (world_at n w 17) → (m : ℕ) → has_node gs m ≡ true → (p : ℕ) → is_done ((world_at n w (17 + q)).facts m) p ≡ true
done_after n ns gs g set w most x a p q le h =
    done_then gs (world_at n w (17 + q)) (subst (λ (i : ℕ). Exchanged gs (world_at n w i)) (same q) (exchanged_on n ns gs g set w most x a p (suc q) (omega (arith, le)))) (emptied n ns gs g set w most x a p q le h)
  where
    same : (q : ℕ) → 16 + suc q ≡ 17 + q
    same q = omega arith
