use Rattle.std.proofs.Common.{◌≡◌, true, false, ap, ◌∙◌}
use Rattle.std.specs.Prelude.{nat_lt}
use Rattle.cluster_types.specs.NodeLists.{IsNodeList}
use Rattle.partition_lists.specs.Lists.{in_order}
use Rattle.node_core.proofs.PeerLaws.{sorted_ids, sorted_list}
use Rattle.node_core.proofs.node.in_order.Goals as goal

pub unreachable-requires : goal.unreachable-requires
unreachable-requires c =
    let same : c.copy_from_slice.new.self ≡ c.as_slice.result.now = c.copy_from_slice.ensures.after in
    let valid : IsNodeList c.copy_from_slice.new.self = rw (same, c.as_slice.ensures.same) c.as_slice.ensures.valid in
    let wrong : false ≡ true = c.in-Err.ensures.valid.1 (sorted_list c.copy_from_slice.new.self c.sort_unstable.new.self valid c.sort_unstable.ensures.permutation) in
    cc

pub returns : goal.returns
returns c =
    let same : c.copy_from_slice.new.self ≡ c.as_slice.result.now = c.copy_from_slice.ensures.after in
    let valid : IsNodeList c.copy_from_slice.new.self = rw (same, c.as_slice.ensures.same) c.as_slice.ensures.valid in
    c.in-Ok.ensures.ok
    ∙ sorted_ids c.copy_from_slice.new.self c.sort_unstable.new.self valid.distinct c.sort_unstable.ensures.permutation c.sort_unstable.ensures.sorted
    ∙ ap (in_order nat_lt) (same ∙ c.as_slice.ensures.same)
