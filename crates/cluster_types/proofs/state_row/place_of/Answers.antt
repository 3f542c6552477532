use Rattle.std.proofs.Common.{rules}
use Rattle.std.proofs.lemmas.List.Sorted.{answers_always}
use Rattle.cluster_types.proofs.StateRowLaws.{searched}
use Rattle.cluster_types.proofs.state_row.place_of.Goals as goal

pub returns : goal.returns
returns c =
    let facts = c.binary_search_by_key.ensures in
    let by_partition = facts.position (λ e. e.0) (answers_always _ _ _ (λ f a r g called. search rules)) in
    rw c.ok.ensures.value (searched c.args.entries.now c.args.p c.binary_search_by_key.result c.requires facts.bound by_partition)
