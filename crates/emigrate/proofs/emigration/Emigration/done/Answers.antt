use Rattle.std.proofs.Common.{not, ap, ◌∙◌}
use Rattle.node_rules.specs.Batches.{is_pending}
use Rattle.emigrate.specs.Going.{Going}
use Rattle.emigrate.proofs.TargetLaws.{done_is}
use Rattle.emigrate.proofs.emigration.Emigration.done.Goals as goal

pub returns : goal.returns
returns c = λ p within.
    c.done.ensures p within ∙ done_is c.self.inside.targets.items c.self.inside.pending p c.self.invariant.1 within ∙ ap (λ (k : Going). not (is_pending k.targets p)) c.self.view_is
