use Rattle.std.proofs.Common.{ap, ◌∙◌}
use Rattle.node_rules.specs.Facts.{Facts}
use Rattle.node_rules.specs.Stamps.{applies_at}
use Rattle.request_rules.specs.Pages.{scan_refusal_after}
use Rattle.node_core.proofs.node.Node.scan_state.Goals as goal

pub returns-in-Err-clause-refused : goal.returns-in-Err-clause-refused
returns-in-Err-clause-refused c =
    c.unserved.ensures c.args.self.now.now c.args.p ∙ ap (scan_refusal_after c.args.self.now.now c.args.p) c.in-Err.ensures.refused

pub returns-in-Some-clause-refused : goal.returns-in-Some-clause-refused
returns-in-Some-clause-refused c =
    c.in-Some.ensures c.args.self.now.now c.in-Ok.ensures.view.viewed ∙ ap (scan_refusal_after c.args.self.now.now c.args.p) c.in-Ok.ensures.refused

pub returns-in-None-clause-refused : goal.returns-in-None-clause-refused
returns-in-None-clause-refused c =
    c.in-None.ensures c.args.self.now.now c.in-Ok.ensures.view.viewed ∙ ap (scan_refusal_after c.args.self.now.now c.args.p) c.in-Ok.ensures.refused

pub returns-in-None-clause-writes : goal.returns-in-None-clause-writes
returns-in-None-clause-writes c =
    c.applies_at.ensures ∙ ap (λ (f : Facts). applies_at f.writes c.args.p) c.in-Ok.ensures.view.viewed.view
