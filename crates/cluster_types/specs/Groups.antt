-- The groups of a divided network, each a list of ids.
use Rattle.std.specs.Prelude.{◌==◌, ℕ, ◌<◌, ◌≤◌, List, length, position, Bool, false, not, Option, Some, None, All}
use Rattle.std.specs.List.{concat}
use Rattle.cluster_types.specs.Distinct.{AreDistinct, contains}

-- 1 to 16 lists with at most 16 ids in all, none empty, and no id twice
pub record AreGroups (groups : List (List ℕ)) : Type 0 where
  pub some : 0 < length groups
  pub limit : length groups ≤ 16
  pub ids_limit : length (concat groups) ≤ 16
  pub none_empty : All (λ ids. 0 < length ids) groups
  pub distinct : AreDistinct (concat groups)

-- the place of the group in which the node stands
abbrev pub group_of : List (List ℕ) → ℕ → Option ℕ
group_of groups n = position (λ ids. contains ids n) groups

-- whether both places are there, and they aren't the same
abbrev pub differ : Option ℕ → Option ℕ → Bool
differ (Some i) (Some j) = not (i == j)
differ (Some i) None = false
differ None j = false

-- whether the two nodes stand in different groups
abbrev pub apart : List (List ℕ) → ℕ → ℕ → Bool
apart groups a b = differ (group_of groups a) (group_of groups b)
