use Rattle.std.proofs.Common.{◌≡◌, ◌||◌, Bool, List, length, ap, subst, ◌∙◌}
use Rattle.cluster_types.specs.Partitions.{partition_count}
use Rattle.cluster_types.specs.Rows.{bit}
use Rattle.progress.proofs.RowLaws.{or_is}
use Rattle.progress.proofs.row.HeapRow.or.Goals as goal

pub returns : goal.returns
returns c =
    let same : c.deref_mut.result.now ≡ c.args.self.now = c.deref_mut.ensures.value ∙ c.self.view_is in
    let size : length c.args.self.now ≡ partition_count = subst (λ (row : List Bool). length row ≡ partition_count) c.self.view_is c.self.invariant in
    or_is c.args.self.now c.args.other.now c.or.new.self size c.read.ensures c.or.ensures.size
    (λ p. c.or.ensures.each p ∙ ap (λ (row : List Bool). bit row p || bit c.args.other.now p) same)
