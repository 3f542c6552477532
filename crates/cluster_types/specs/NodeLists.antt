-- Lists of at most sixteen distinct ids.
use Rattle.std.specs.Prelude.{ℕ, ◌≤◌, List, length}
use Rattle.cluster_types.specs.Distinct.{AreDistinct}

-- at most sixteen ids, none twice
pub record IsNodeList (ids : List ℕ) : Type 0 where
  pub limit : length ids ≤ 16
  pub distinct : AreDistinct ids
