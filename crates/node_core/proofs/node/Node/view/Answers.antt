use Rattle.std.proofs.Common.{ap, ◌∙◌}
use Rattle.node_rules.specs.Exchange.{Exchange, exchange_key, members_of}
use Rattle.node_steps.proofs.ViewLaws.{exchange_is, members_shown}
use Rattle.node_core.proofs.node.Node.view.Goals as goal

pub returns-in-Some : goal.returns-in-Some
returns-in-Some c =
    let same = exchange_is c.args.self.now.now c.in-Some.view.now c.in-Some.ensures.view.viewed in
    let key = c.key.ensures ∙ ap (λ (x : Exchange). exchange_key x.view) same in
    let members = c.members.ensures ∙ ap (λ (x : Exchange). members_of x.view) same in
    rw (key, members) (members_shown c.args.self.now.now.exchange.view c.in-Some.ensures.some)
