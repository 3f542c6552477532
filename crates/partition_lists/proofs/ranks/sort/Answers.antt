use Rattle.partition_lists.specs.RankKeys.{id_in}
use Rattle.partition_lists.proofs.InOrderLaws.{distinct_differ, differ_permuted, differ_distinct}
use Rattle.partition_lists.proofs.NumberLaws.{sorted_numbers}
use Rattle.partition_lists.proofs.ranks.sort.Goals as goal

pub returns-clause-order : goal.returns-clause-order
returns-clause-order c =
    sorted_numbers id_in c.args.keys.now c.sort_unstable.new.self
    (distinct_differ id_in c.args.keys.now c.requires)
    c.sort_unstable.ensures.permutation
    c.sort_unstable.ensures.sorted

pub returns-clause-distinct : goal.returns-clause-distinct
returns-clause-distinct c =
    differ_distinct id_in c.sort_unstable.new.self
    (differ_permuted id_in c.args.keys.now c.sort_unstable.new.self c.sort_unstable.ensures.permutation (distinct_differ id_in c.args.keys.now c.requires))
