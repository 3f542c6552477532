use Rattle.std.proofs.Common.{◌∙◌, ap}
use Rattle.std.specs.List.{list_all}
use Rattle.audit_core.specs.Holders.{is_held_elsewhere}
use Rattle.audit_core.proofs.LossChecks.{drop_tried}
use Rattle.audit_core.proofs.judge.Judge.is_held_elsewhere.Goals as goal

pub returns-clause-fits : goal.returns-clause-fits
returns-clause-fits c = λ i k knows declared. drop_tried c.args.self.now i c.args.node c.args.p k c.are_held_elsewhere.result knows declared (c.are_held_elsewhere.ensures ∙ ap (list_all (is_held_elsewhere c.args.self.now c.args.node)) c.held.ensures)
