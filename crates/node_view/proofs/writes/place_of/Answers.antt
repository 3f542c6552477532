use Rattle.std.proofs.Common.{rules}
use Rattle.std.proofs.lemmas.List.Sorted.{answers_always}
use Rattle.node_view.proofs.TableLaws.{searched}
use Rattle.node_view.proofs.writes.place_of.Goals as goal

pub returns : goal.returns
returns g c =
    let facts = c.binary_search_by_key.ensures in
    let by_partition = facts.position (λ e. e.0) (answers_always _ _ _ (λ f a r h called. search rules)) in
    searched _ _ _ c.requires facts.bound by_partition
