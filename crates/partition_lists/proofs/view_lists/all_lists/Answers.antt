use Rattle.std.proofs.Common.{◌≡◌, List, ℕ, IfOk, ap, subst, sym, ◌∙◌}
use Rattle.cluster_types.specs.declared.member.Member.{Member}
use Rattle.cluster_types.specs.Partitions.{partition_count}
use Rattle.partition_lists.specs.ViewLists.{lists_from}
use Rattle.partition_lists.proofs.ViewListLaws.{lists_alone}
use Rattle.partition_lists.proofs.view_lists.all_lists.Goals as goal

pub returns-in-len1-clause-ids : goal.returns-in-len1-clause-ids
returns-in-len1-clause-ids c =
    subst (λ (xs : List ℕ). IfOk c.repeated.result (λ ids. ids.items ≡ xs))
    (sym (lists_alone c.as_slice.result.now c.only-item.result partition_count c.in-len1.len_at_least c.in-len1.len_below c.only-item.is)
    ∙ ap (λ (ms : List Member). lists_from ms partition_count 0) c.as_slice.ensures.same)
    c.repeated.ensures
