use Rattle.std.proofs.Common.{option_map, ap, ◌∙◌}
use Rattle.node_rules.specs.Transactions as rules
use Rattle.node_view.specs.Transactions.{kept_of}
use Rattle.node_view.specs.Views.{Viewed}
use Rattle.node_view.proofs.ShownLaws.{transaction_kept}
use Rattle.node_view.proofs.view.View.transaction.Goals as goal

pub returns : goal.returns
returns c =
    let i = c.self.inside in
    c.get.ensures
    ∙ transaction_kept i.txns i.notes c.args.t c.self.invariant.noted
    ∙ ap (λ (v : Viewed). option_map kept_of (rules.transaction v.transactions c.args.t)) c.self.view_is
