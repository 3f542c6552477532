-- The other declared nodes.
use Rattle.std.specs.Prelude.{ℕ, ◌≤◌, List, length, Contains}

-- a node and as many others as there may be, without it
pub record ArePeers (me : ℕ) (peers : List ℕ) : Type 0 where
  pub limit : length peers ≤ 15
  pub others : ¬ (Contains peers me)

-- how many replicas a partition may have
pub record IsFactor (factor : ℕ) : Type 0 where
  pub some : 1 ≤ factor
  pub limit : factor ≤ 4
