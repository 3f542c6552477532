-- The order of keys.
use Rattle.std.specs.Prelude.{◌≡◌, ◌≤◌}
use Rattle.cluster_types.specs.declared.cluster_key.ClusterKey.{ClusterKey}

-- at most that key: by round, and by principal in the same round
pub record KeyAtMost (a b : ClusterKey) : Type 0 where
  pub rounds : a.round ≤ b.round
  pub principals : a.round ≡ b.round → a.principal ≤ b.principal
