use Rattle.std.proofs.Common.{◌≡◌, ap, sym, ◌∙◌}
use Rattle.std.specs.Option.{option_copied}
use Rattle.node_rules.specs.Steps.{Planning}
use Rattle.node_steps.proofs.ResolveLaws.{answered_as}
use Rattle.node_core.proofs.node.Node.answered.Goals as goal

pub returns : goal.returns
returns c =
    let f = c.args.self.now.now in
    let by : c.self.inside.by ≡ f.store.by = sym c.self.invariant.0.by ∙ ap (λ (p : Planning). p.now.store.by) c.self.view_is in
    rw (c.in_ok-copy.ensures, c.join.ensures, c.in_ok-best.ensures, c.as_ref.ensures.value, c.in_ok-answer.ensures, by)
    (answered_as f.transactions c.in-Some.txn.now c.args.transaction c.args.clock f.store.by (option_copied c.args.version) c.in-Some.ensures.kept)
