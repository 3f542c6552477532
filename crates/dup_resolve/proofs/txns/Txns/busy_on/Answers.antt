use Rattle.std.proofs.Common.{ap, ◌∙◌}
use Rattle.dup_resolve.specs.Open.{Open, has_txn_on}
use Rattle.dup_resolve.proofs.IndexLaws.{busy_is}
use Rattle.dup_resolve.proofs.txns.Txns.busy_on.Goals as goal

pub returns : goal.returns
returns c =
    busy_is c.args.p c.self.inside.slots.running c.at.result (c.at.ensures.value ∙ c.self.invariant.1.at c.args.p c.at.ensures.within)
    ∙ ap (λ (o : Open). has_txn_on o.running c.args.p) c.self.view_is
