use Rattle.std.proofs.Common.{Bool, map, sym, ap, subst, ◌∙◌}
use Rattle.emigrate.specs.Going.{Going}
use Rattle.progress.specs.Known.{Known}
use Rattle.node_view.specs.Views.{IsStageOf, exchange_at}
use Rattle.node_rules.specs.Batches.{Target, done_row}
use Rattle.cluster_types.specs.Partitions.{partition_count}
use Rattle.node_rules.specs.Exchange as exchange
use Rattle.node_view.proofs.TargetLaws.{nodes_acking}
use Rattle.node_view.proofs.view.View.take_batch_ack.Goals as goal

pub invariant_of-self : goal.invariant_of-self
invariant_of-self c =
    let v = c.self.inside in
    let i = c.self.invariant in
    let m = c.in-Exchanged.moving in
    let stage = subst (IsStageOf v.me v.factor v.key) c.in-Exchanged.is i.stage_of in
    let view = ap exchange_at c.in-Exchanged.is in
    let after = c.on_ack.ensures.after in
    let row = c.done_of.ensures in
    record {
      stage_of = record {
        met = stage.met;
        finished = stage.finished;
        whole = stage.whole;
        key_of = ap (λ (g : Going). g.key) after ∙ stage.key_of;
        targeted = ap (λ (g : Going). map (λ (t : Target). t.node) g.targets) after ∙ nodes_acking m.emigration.targets c.args.from c.args.number ∙ stage.targeted;
      };
      viewed = i.viewed ∙ ap (λ (x : exchange.Exchange). exchange.members_of x.view) view;
      key = i.key ∙ ap (λ (x : exchange.Exchange). exchange.exchange_key x.view) view;
      member = i.member;
      others = i.others;
      told = ap (λ (k : Known). k.me) c.own_done.ensures ∙ i.told;
      heard = ap (λ (k : Known). k.others) c.own_done.ensures ∙ i.heard;
      done = ap (λ (k : Known). k.own) c.own_done.ensures ∙ row ∙ sym (ap (λ (b : Bool). done_row b c.on_ack.new.self.targets partition_count 0) stage.finished);
      noted = i.noted;
    }
