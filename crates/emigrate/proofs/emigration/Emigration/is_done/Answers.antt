use Rattle.std.proofs.Common.{not, ap, ◌∙◌}
use Rattle.node_rules.specs.Batches.{is_pending}
use Rattle.emigrate.specs.Going.{Going}
use Rattle.emigrate.proofs.TargetLaws.{done_is}
use Rattle.emigrate.proofs.emigration.Emigration.is_done.Goals as goal

pub returns : goal.returns
returns c =
    c.is_done.ensures.done
    ∙ done_is c.self.inside.targets.items c.self.inside.pending c.args.p c.self.invariant.1 c.is_done.ensures.within
    ∙ ap (λ (k : Going). not (is_pending k.targets c.args.p)) c.self.view_is
