use Rattle.std.proofs.Common.{map, sym, ap, subst, ◌∙◌}
use Rattle.cluster_types.specs.Partitions.{partition_count}
use Rattle.emigrate.specs.Going.{Going}
use Rattle.node_rules.specs.Batches.{Target, done_row}
use Rattle.node_rules.specs.Exchange as exchange
use Rattle.node_view.specs.declared.view.Stage.{Stage}
use Rattle.node_view.specs.declared.view.View.TheInside.{Inside}
use Rattle.node_view.specs.Views.{FieldsAgree, IsStageOf, exchange_at, targets_at}
use Rattle.node_view.proofs.TargetLaws.{done_sending, nodes_sending}
use Rattle.node_view.proofs.view.View.send_batch.Goals.{in-Exchanged, in_default}
use Rattle.node_view.proofs.view.View.send_batch.Goals as goal

pub invariant_of-self : goal.invariant_of-self
invariant_of-self c =
    let v = c.self.inside in
    let i = c.self.invariant in
    elim c.match-self.branch [
      | in-Exchanged w ↦
          let m = w.in-Exchanged.moving in
          let stage = subst (IsStageOf v.me v.factor v.key) w.in-Exchanged.is i.stage_of in
          let view = ap exchange_at w.in-Exchanged.is in
          let after = w.sent.ensures in
          subst (λ (inside : Inside). FieldsAgree inside) (sym w.self-inside-is) (record {
            stage_of = record {
              met = stage.met;
              finished = stage.finished;
              whole = stage.whole;
              key_of = ap (λ (g : Going). g.key) after ∙ stage.key_of;
              targeted = ap (λ (g : Going). map (λ (t : Target). t.node) g.targets) after ∙ nodes_sending m.emigration.targets c.args.to c.args.batch ∙ stage.targeted;
            };
            viewed = i.viewed ∙ ap (λ (x : exchange.Exchange). exchange.members_of x.view) view;
            key = i.key ∙ ap (λ (x : exchange.Exchange). exchange.exchange_key x.view) view;
            member = i.member;
            others = i.others;
            told = i.told;
            heard = i.heard;
            done =
                i.done
                ∙ ap (λ (s : Stage). done_row (exchange_at s).exchanged (targets_at s) partition_count 0) w.in-Exchanged.is
                ∙ sym (done_sending m.map.exchange.exchanged m.emigration.targets c.args.to c.args.batch partition_count 0)
                ∙ sym (ap (λ (g : Going). done_row m.map.exchange.exchanged g.targets partition_count 0) after);
            noted = i.noted;
          })
      | in_default w ↦ subst (λ (inside : Inside). FieldsAgree inside) (sym w.self-inside-is) i
    ]
