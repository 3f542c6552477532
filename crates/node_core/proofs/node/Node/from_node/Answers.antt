use Rattle.std.proofs.Common.{◌≡◌, OnOk}
use Rattle.node_rules.specs.Facts.{Facts}
use Rattle.node_rules.specs.Steps.{planning}
use Rattle.node_core.proofs.ReceiveLaws.{repl_planned}
use Rattle.node_core.proofs.node.Node.from_node.Goals as goal

pub returns-in-Repl-clause-planned : goal.returns-in-Repl-clause-planned
returns-in-Repl-clause-planned c =
    let f = c.args.self.now.now in
    repl_planned f c.args.clock c.args.from _ _ _ _ _ c.args.m.now (λ (g : Facts). OnOk c.on_repl.result (c.on_repl.new.self ≡ planning f g)) c.in-Repl.is c.on_repl.ensures.planned
