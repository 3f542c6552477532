use Rattle.std.proofs.Common.{Bool, List, length, sym, ap, ◌∙◌}
use Rattle.cluster_types.specs.Rows.{bit}
use Rattle.progress.proofs.RowLaws.{clear_is}
use Rattle.node_view.proofs.LiveLaws.{count_of_clear}
use Rattle.node_view.proofs.live.Live.new.Goals as goal

pub invariant_of-result : goal.invariant_of-result
invariant_of-result c =
    let is = c.in_ok-marks.ensures.ok in
    (ap length is ∙ c.new.ensures.size, sym (count_of_clear _ (λ p. ap (λ (row : List Bool). bit row p) is ∙ c.new.ensures.clear.clear p)))

pub returns : goal.returns
returns c = c.in_ok-marks.ensures.ok ∙ clear_is c.new.result c.new.ensures.size c.new.ensures.clear
