use Rattle.std.proofs.Common.{◌||◌, Bool, ap, ◌∙◌}
use Rattle.cluster_types.specs.Rows.{bit}
use Rattle.node_view.proofs.TargetLaws.{done_is}
use Rattle.node_view.proofs.view.done_of.Goals as goal

pub returns : goal.returns
returns c =
    done_is c.or.new.self c.args.emigration.now.targets c.or.ensures.size
    (λ p within. c.or.ensures.each p ∙ ap (λ (b : Bool). b || bit c.done.result.now p) (c.new-row.ensures.clear.clear p) ∙ c.done.ensures p within)
