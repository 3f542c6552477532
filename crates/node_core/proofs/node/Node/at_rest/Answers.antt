use Rattle.std.proofs.Common.{◌≡◌, true, false, map, sym, ap, ◌∙◌}
use Rattle.cluster_types.specs.Partitions.{partition_count}
use Rattle.node_rules.specs.Copies.{is_nil}
use Rattle.node_rules.specs.Exchange.{Exchange}
use Rattle.node_rules.specs.Facts.{Facts}
use Rattle.node_rules.specs.Standing.{knows_all_settled}
use Rattle.node_rules.specs.Steps.{Planning}
use Rattle.node_rules.specs.Transactions.{Transactions}
use Rattle.node_view.specs.Transactions.{kept_of}
use Rattle.node_core.proofs.ShowingLaws.{busy_restless, mapped_is_up, nil_kept, restless, rests_by, unsettled_restless}
use Rattle.node_steps.proofs.ViewLaws.{exchange_is, transactions_are}
use Rattle.node_core.proofs.node.Node.at_rest.Goals.{then-knows_all_settled, else-knows_all_settled}
use Rattle.node_core.proofs.node.Node.at_rest.Goals as goal

pub returns-in-Err : goal.returns-in-Err
returns-in-Err c = restless c.args.self.now.now c.in-Err.ensures.unfinished

pub returns-then-is_empty : goal.returns-then-is_empty
returns-then-is_empty c =
    let f : Facts = c.args.self.now.now in
    let v = c.in-Ok.view.now in
    let known : c.knows_all_settled.result ≡ knows_all_settled f partition_count 0 = c.knows_all_settled.ensures f c.in-Ok.ensures.view in
    elim c.if-knows_all_settled.branch [
      | then-knows_all_settled w ↦
          let nil : w.is_empty.result ≡ is_nil f.transactions.running =
          nil_kept kept_of f.transactions.running w.txns.result.now.running w.is_empty.result (w.txns.ensures.running ∙ ap (λ (ts : Transactions). map kept_of ts.running) (transactions_are f v c.in-Ok.ensures.view.viewed)) w.is_empty.ensures in
          rests_by f c.is_to_learn_or_drop.result (mapped_is_up f c.in-Ok.ensures.refused) (ap (λ (x : Exchange). x.exchanged) (sym (exchange_is f v c.in-Ok.ensures.view.viewed)) ∙ c.in-Ok.ensures.exchanged)
          (sym known ∙ w.if-knows_all_settled.true) (sym nil ∙ sym w.value-is ∙ c.if-is_empty.true) (c.is_to_learn_or_drop.ensures f c.in-Ok.ensures.view (ap (λ (p : Planning). p.now.store.content) (sym c.self.view_is)))
      | else-knows_all_settled w ↦ let wrong : false ≡ true = sym w.if-knows_all_settled.false ∙ sym w.value-is ∙ c.if-is_empty.true in cc
    ]

pub returns-else-is_empty : goal.returns-else-is_empty
returns-else-is_empty c =
    let f : Facts = c.args.self.now.now in
    let v = c.in-Ok.view.now in
    let known : c.knows_all_settled.result ≡ knows_all_settled f partition_count 0 = c.knows_all_settled.ensures f c.in-Ok.ensures.view in
    elim c.if-knows_all_settled.branch [
      | then-knows_all_settled w ↦
          let nil : w.is_empty.result ≡ is_nil f.transactions.running =
          nil_kept kept_of f.transactions.running w.txns.result.now.running w.is_empty.result (w.txns.ensures.running ∙ ap (λ (ts : Transactions). map kept_of ts.running) (transactions_are f v c.in-Ok.ensures.view.viewed)) w.is_empty.ensures in
          c.if-is_empty.false ∙ busy_restless f (sym nil ∙ sym w.value-is ∙ c.if-is_empty.false)
      | else-knows_all_settled w ↦ c.if-is_empty.false ∙ unsettled_restless f (sym known ∙ w.if-knows_all_settled.false)
    ]
