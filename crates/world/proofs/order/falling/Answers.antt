use Rattle.std.proofs.Common.{◌≡◌, true, false, IsSortedBy, ap, ◌∙◌, rules}
use Rattle.std.specs.Prelude.{nat_lt}
use Rattle.std.specs.Ordering.{is_lt, nat_cmp}
use Rattle.std.proofs.lemmas.List.Sorted.{answers_always}
use Rattle.cluster_types.specs.NodeLists.{IsNodeList}
use Rattle.partition_lists.specs.Lists.{in_order}
use Rattle.world.proofs.OrderLaws.{below_is, list_falling, sorted_falling, weak_falling}
use Rattle.world.proofs.order.falling.Goals as goal

pub unreachable-requires : goal.unreachable-requires
unreachable-requires c =
    let same : c.copy_from_slice.new.self ≡ c.as_slice.result.now = c.copy_from_slice.ensures.after in
    let valid : IsNodeList c.copy_from_slice.new.self = rw (same, c.as_slice.ensures.same) c.as_slice.ensures.valid in
    let down : IsSortedBy (λ m n. nat_lt n m) c.sort_unstable_by.new.self =
    c.sort_unstable_by.ensures.sorted (λ m n. nat_lt n m) weak_falling (answers_always _ _ _ (λ f a r g q. let made : r ≡ nat_cmp a.1.0.now a.0.now = search rules in ap is_lt made ∙ below_is a.1.0.now a.0.now)) in
    let wrong : false ≡ true = c.in-Err.ensures.valid.1 (list_falling c.copy_from_slice.new.self c.sort_unstable_by.new.self valid c.sort_unstable_by.ensures.permutation down) in
    cc

pub returns : goal.returns
returns c =
    let same : c.copy_from_slice.new.self ≡ c.as_slice.result.now = c.copy_from_slice.ensures.after in
    let valid : IsNodeList c.copy_from_slice.new.self = rw (same, c.as_slice.ensures.same) c.as_slice.ensures.valid in
    let down : IsSortedBy (λ m n. nat_lt n m) c.sort_unstable_by.new.self =
    c.sort_unstable_by.ensures.sorted (λ m n. nat_lt n m) weak_falling (answers_always _ _ _ (λ f a r g q. let made : r ≡ nat_cmp a.1.0.now a.0.now = search rules in ap is_lt made ∙ below_is a.1.0.now a.0.now)) in
    c.in-Ok.ensures.ok
    ∙ sorted_falling c.copy_from_slice.new.self c.sort_unstable_by.new.self valid.distinct c.sort_unstable_by.ensures.permutation down
    ∙ ap (in_order (λ m n. nat_lt n m)) (same ∙ c.as_slice.ensures.same)
