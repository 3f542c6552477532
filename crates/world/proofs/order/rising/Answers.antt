use Rattle.std.proofs.Common.{◌≡◌, true, false, ap, ◌∙◌}
use Rattle.std.specs.Prelude.{nat_lt}
use Rattle.cluster_types.specs.NodeLists.{IsNodeList}
use Rattle.partition_lists.specs.Lists.{in_order}
use Rattle.world.proofs.OrderLaws.{compared_rising, list_rising, sorted_rising}
use Rattle.world.proofs.order.rising.Goals as goal

pub unreachable-requires : goal.unreachable-requires
unreachable-requires c =
    let same : c.copy_from_slice.new.self ≡ c.as_slice.result.now = c.copy_from_slice.ensures.after in
    let valid : IsNodeList c.copy_from_slice.new.self = rw (same, c.as_slice.ensures.same) c.as_slice.ensures.valid in
    let wrong : false ≡ true = c.in-Err.ensures.valid.1 (list_rising c.copy_from_slice.new.self c.sort_unstable.new.self valid c.sort_unstable.ensures.permutation (compared_rising c.sort_unstable.new.self c.sort_unstable.ensures.sorted)) in
    cc

pub returns : goal.returns
returns c =
    let same : c.copy_from_slice.new.self ≡ c.as_slice.result.now = c.copy_from_slice.ensures.after in
    let valid : IsNodeList c.copy_from_slice.new.self = rw (same, c.as_slice.ensures.same) c.as_slice.ensures.valid in
    c.in-Ok.ensures.ok
    ∙ sorted_rising c.copy_from_slice.new.self c.sort_unstable.new.self valid.distinct c.sort_unstable.ensures.permutation (compared_rising c.sort_unstable.new.self c.sort_unstable.ensures.sorted)
    ∙ ap (in_order nat_lt) (same ∙ c.as_slice.ensures.same)
