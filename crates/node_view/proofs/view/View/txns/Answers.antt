use Rattle.std.proofs.Common.{map, ap, ◌∙◌}
use Rattle.node_view.specs.Transactions.{kept_of}
use Rattle.node_view.specs.Views.{Viewed}
use Rattle.node_view.proofs.ShownLaws.{running_kept}
use Rattle.node_view.proofs.view.View.txns.Goals as goal

pub returns-clause-running : goal.returns-clause-running
returns-clause-running c =
    let i = c.self.inside in
    running_kept i.txns i.notes c.self.invariant.noted ∙ ap (λ (v : Viewed). map kept_of v.transactions.running) c.self.view_is
