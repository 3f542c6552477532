-- The rounds of calm as worlds one after another.
use Rattle.std.proofs.Common.{◌≡◌, ℕ, zero, suc, ◌≤◌, true, false, List, None, refl, sym, ap, subst, ◌∙◌, arith}
use Rattle.cluster_rules.specs.CalmBound.{is_full_round}
use Rattle.journal_readings.specs.Lines.{has_node}
use Rattle.cluster_rules.specs.Steps.{round, rounds}
use Rattle.cluster_rules.specs.World.{World}
use Rattle.calm_laws.proofs.Groups.{Rounds, hears_near, forgets}
use Rattle.calm_laws.specs.Flows.{Base, Foreign, Fresh, HeardAs, Near, Once, Plain, Rounded, look, world_at}
use Rattle.calm_laws.proofs.Hearing.{base_kept, round_frame}
use Rattle.calm_laws.proofs.Rounds.{rounded}

-- one round more comes last
pub one_more : (n k : ℕ) (w : World) → world_at n w (suc k) ≡ (round n (world_at n w k)).world
unfolding rounds
one_more n zero w = refl
one_more n (suc k) w = one_more n k (round n w).world

pub at_start : (n : ℕ) (w : World) → world_at n w 0 ≡ w
unfolding rounds
at_start n w = refl

pub next_round : (n : ℕ) (ns : List ℕ) (w : World) (k : ℕ) → Base ns (world_at n w k) → is_full_round n w k ≡ false → Rounded n (world_at n w k) (world_at n w (suc k))
next_round n ns w k b placed =
    subst (λ (v : World). Rounded n (world_at n w k) v) (sym (one_more n k w))
    (rounded n (world_at n w k) b.named b.in_order (subst Once (sym b.ups) b.once) placed)

pub base_after : (n : ℕ) (ns : List ℕ) (w : World) (most : ℕ) → Plain n ns w most → (k : ℕ) → k ≤ most → Base ns (world_at n w k)
base_after n ns w most p zero le = subst (λ (v : World). Base ns v) (sym (at_start n w)) p.base
base_after n ns w most p (suc k) le =
    let b : Base ns (world_at n w k) = base_after n ns w most p k (omega (arith, le)) in
    base_kept n ns (world_at n w k) (world_at n w (suc k)) b (next_round n ns w k b (p.placed k (omega (arith, le))))

-- roles stay
pub role_stays : (n : ℕ) (ns : List ℕ) (w : World) (most : ℕ) → Plain n ns w most → (a : ℕ) (k : ℕ) → k ≤ most → ((world_at n w k).facts a).role ≡ (w.facts a).role
role_stays n ns w most p a zero le = ap (λ (v : World). (v.facts a).role) (at_start n w)
role_stays n ns w most p a (suc k) le =
    (((round_frame n (world_at n w k) (world_at n w (suc k)) (next_round n ns w k (base_after n ns w most p k (omega (arith, le))) (p.placed k (omega (arith, le))))).same a).role)
    ∙ role_stays n ns w most p a k (omega (arith, le))

-- the rounds of calm are rounds
pub plain_rounds : (n : ℕ) (ns : List ℕ) (w : World) (most : ℕ) → Plain n ns w most → Rounds n ns (world_at n w) most
plain_rounds n ns w most p = record {
  base = base_after n ns w most p 0 (omega arith);
  round = λ k lt. next_round n ns w k (base_after n ns w most p k (omega (arith, lt))) (p.placed k lt);
  speaks = p.speaks;
}

-- from the second round on an up node has this round's beat of each up node that is near to it, of its present role,
-- and the beat names the hearer
pub nodes_hear : (n : ℕ) (ns : List ℕ) (w : World) (most : ℕ) → Plain n ns w most → (a m : ℕ) → Near ns w a m → Near ns w m a → (k : ℕ) → suc (suc k) ≤ most
    → HeardAs (Fresh ((world_at n w (suc k)).facts a).role m) ((world_at n w (suc (suc k))).facts m).hearing.heard a
nodes_hear n ns w most p a m am ma k le =
    hears_near n ns (world_at n w) most (plain_rounds n ns w most p) a m (subst (λ (v : World). Near ns v a m) (sym (at_start n w)) am) (subst (λ (v : World). Near ns v m a) (sym (at_start n w)) ma) k le

-- from the eleventh round on it hears nobody else
pub nodes_forget : (n : ℕ) (ns : List ℕ) (w : World) (most : ℕ) → Plain n ns w most → (a m : ℕ) → has_node ns m ≡ true → Foreign ns w a m → (k : ℕ) → 10 ≤ k → suc k ≤ most
    → look ((world_at n w (suc k)).facts m).hearing.heard a ≡ None
nodes_forget n ns w most p a m here foreign k ten le =
    forgets n ns (world_at n w) most (plain_rounds n ns w most p) a m here (subst (λ (v : World). Foreign ns v a m) (sym (at_start n w)) foreign) k ten le
