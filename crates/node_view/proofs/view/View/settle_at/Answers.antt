use Rattle.std.proofs.Common.{◌≡◌, ◌<◌, [], sym, ap, subst, ◌∙◌}
use Rattle.cluster_types.specs.Partitions.{partition_count}
use Rattle.node_rules.specs.Facts.{list_at}
use Rattle.node_rules.specs.Here.{here}
use Rattle.node_view.specs.declared.here.Settling.{Settling}
use Rattle.node_view.specs.Plans.{settled_at}
use Rattle.node_view.specs.Settlings.{settling_of}
use Rattle.node_view.specs.Views.{IsNodeInView, Viewed, facts_in}
use Rattle.node_view.proofs.NodeLaws.{but_in_view, here_in, node_seen}
use Rattle.node_view.proofs.SettleLaws.{AreSteps, first_is, done_there, set_where_dropped, settled_node, settles_after_hand, settles_counted}
use Rattle.node_view.proofs.view.View.settle_at.Goals as goal

pub hand-requires : goal.hand-requires
hand-requires c =
    let t = c.args.settling in
    let is = first_is (facts_in c.args.self.now c.args.store.now) t [] c.requires.settlings in
    λ due. sym (ap (λ (u : Settling). u.hands) is) ∙ due

pub settle-requires-clause-exchanged : goal.settle-requires-clause-exchanged
settle-requires-clause-exchanged c = λ due. ap (λ (v : Viewed). v.exchange.exchanged) c.hand.ensures ∙ c.requires.settlings.exchanged (λ none. cc)

pub settle-requires-clause-due : goal.settle-requires-clause-due
settle-requires-clause-due c =
    let t = c.args.settling in
    let is = first_is (facts_in c.args.self.now c.args.store.now) t [] c.requires.settlings in
    λ due. settles_after_hand c.args.self.now c.hand.new.self c.args.store.now t is c.hand.ensures due

pub settle-requires-clause-counted : goal.settle-requires-clause-counted
settle-requires-clause-counted c =
    let t = c.args.settling in
    let is = first_is (facts_in c.args.self.now c.args.store.now) t [] c.requires.settlings in
    let within : t.partition < partition_count = subst (λ n. n < partition_count) c.number.ensures.same c.number.ensures.range in
    λ due. subst (λ (v : Viewed). 0 < v.watch.unsettled) (sym c.hand.ensures)
    (settles_counted c.args.self.now c.args.store.now t.partition t.hands within c.requires.node (sym (ap (λ (u : Settling). u.settles) is) ∙ due))

pub drop_settled-requires-clause-settled : goal.drop_settled-requires-clause-settled
drop_settled-requires-clause-settled c =
    let t = c.args.settling in
    let is = first_is (facts_in c.args.self.now c.args.store.now) t [] c.requires.settlings in
    λ due. set_where_dropped t c.args.self.now c.hand.new.self c.settle.new.self c.learn.new.self c.args.store.now is c.hand.ensures c.settle.ensures.view c.settle.ensures.set c.learn.ensures.view due

pub drop_settled-requires-clause-done : goal.drop_settled-requires-clause-done
drop_settled-requires-clause-done c =
    let t = c.args.settling in
    let is = first_is (facts_in c.args.self.now c.args.store.now) t [] c.requires.settlings in
    λ due. done_there t c.args.self.now c.hand.new.self c.settle.new.self c.learn.new.self c.args.store.now is c.hand.ensures c.settle.ensures.view c.learn.ensures.view due

pub returns : goal.returns
returns c f h =
    let t = c.args.settling in
    let p = t.partition in
    let v = c.args.self.now in
    let s = c.args.store.now in
    let w = c.learn.new.self in
    let u = c.drop_settled.new.store in
    let g = settled_at f t in
    let live = c.refresh.new.self.watch.live in
    let within : p < partition_count = subst (λ n. n < partition_count) c.number.ensures.same c.number.ensures.range in
    let is : t ≡ settling_of p (here f (list_at f p) p) = first_is (facts_in v s) t [] c.requires.settlings ∙ ap (settling_of p) (here_in f v s p h) in
    let steps : AreSteps t v c.hand.new.self c.settle.new.self w s c.learn.new.store u = record {
      hand = c.hand.ensures;
      settle = c.settle.ensures.view;
      set = c.settle.ensures.set;
      learn = c.learn.ensures.view;
      learnt_in = c.learn.ensures.store;
      drop = c.drop_settled.ensures;
    } in
    let but = settled_node f t v c.hand.new.self c.settle.new.self w s c.learn.new.store u steps within is h in
    subst (λ (x : Viewed). IsNodeInView g x u) (sym c.refresh.ensures.same) (node_seen p g w u live but (c.refresh.ensures.live g (but_in_view p g w u but) but.content))
