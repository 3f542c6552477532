-- The lists of all partitions, one after another.
use Rattle.std.specs.Prelude.{ℕ, zero, suc, ◌+◌, List, [], ◌++◌}
use Rattle.cluster_types.specs.declared.member.Member.{Member}
use Rattle.partition_lists.specs.Lists.{list}

-- the lists of so many partitions, from one on
unfoldable pub lists_from : List Member → ℕ → ℕ → List ℕ
lists_from members zero p = []
lists_from members (suc n) p = list members p ++ lists_from members n (p + 1)
