-- Rounds that may be taken, each from the world before it.
use Rattle.std.proofs.Common.{◌≡◌, ℕ, zero, suc, ◌+◌, ◌-◌, ◌<◌, ◌≤◌, [], subst, arith}
use Rattle.cluster_types.specs.Partitions.{partition_count}
use Rattle.cluster_rules.specs.Steps.{round, rounds}
use Rattle.cluster_rules.specs.World.{World}
use Rattle.cluster_rules.proofs.MarkLaws.{round_follows}
use Rattle.calm_laws.specs.Flows.{world_at}
use Rattle.calm_laws.specs.Onward.{MayTake}
use Rattle.calm_laws.proofs.Footed.{again}
use Rattle.calm_laws.proofs.Onward.{may_front, may_here, may_on}

pub may_rounds : (k rest : ℕ) (w : World) → MayTake w (rounds partition_count (k + rest) w).steps → MayTake (world_at partition_count w k) (rounds partition_count rest (world_at partition_count w k)).steps
unfolding rounds
may_rounds zero rest w may = subst (λ (j : ℕ). MayTake w (rounds partition_count j w).steps) (none rest) may
  where
    none : (r : ℕ) → 0 + r ≡ r
    none r = omega arith
may_rounds (suc k) rest w may =
    may_rounds k rest (round partition_count w).world
    (may_on w (round partition_count w) (rounds partition_count (k + rest) (round partition_count w).world).steps (round_follows partition_count w)
    (subst (λ (j : ℕ). MayTake w (rounds partition_count j w).steps) (more k rest) may))
  where
    more : (a b : ℕ) → suc a + b ≡ suc (a + b)
    more a b = omega arith

-- the world after some of them
pub may_at : (w : World) (most : ℕ) → MayTake w (rounds partition_count most w).steps → (k : ℕ) → k ≤ most → MayTake (world_at partition_count w k) []
may_at w most may k le =
    may_here (world_at partition_count w k) (rounds partition_count (most - k) (world_at partition_count w k)).steps
    (may_rounds k (most - k) w (subst (λ (j : ℕ). MayTake w (rounds partition_count j w).steps) (again k most le) may))

-- and the round that comes next
pub may_round : (w : World) (most : ℕ) → MayTake w (rounds partition_count most w).steps → (k : ℕ) → k < most → MayTake (world_at partition_count w k) (round partition_count (world_at partition_count w k)).steps
unfolding rounds
may_round w most may k lt =
    let u : World = world_at partition_count w k in
    may_front u (round partition_count u).steps (rounds partition_count (most - suc k) (round partition_count u).world).steps
    (may_rounds k (suc (most - suc k)) w (subst (λ (j : ℕ). MayTake w (rounds partition_count j w).steps) (whole k most lt) may))
  where
    whole : (a b : ℕ) → a < b → b ≡ a + suc (b - suc a)
    whole a b h = omega (arith, h)
