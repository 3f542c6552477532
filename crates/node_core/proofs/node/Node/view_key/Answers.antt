use Rattle.std.proofs.Common.{ap, ◌∙◌}
use Rattle.node_rules.specs.Exchange.{Exchange, exchange_key}
use Rattle.node_steps.proofs.ViewLaws.{exchange_is}
use Rattle.node_core.proofs.node.Node.view_key.Goals as goal

pub returns-in-Some : goal.returns-in-Some
returns-in-Some c = c.key.ensures ∙ ap (λ (x : Exchange). exchange_key x.view) (exchange_is c.args.self.now.now c.in-Some.view.now c.in-Some.ensures.view.viewed)
