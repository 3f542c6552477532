use Rattle.std.proofs.Common.{◌≡◌, ◌<◌, true, ap, subst, sym, ◌∙◌}
use Rattle.cluster_types.specs.Partitions.{partition_count}
use Rattle.node_rules.specs.Copies.{holds_of}
use Rattle.node_rules.specs.Facts.{list_at}
use Rattle.node_rules.specs.Here as rules
use Rattle.cluster_types.specs.Rows.{bit}
use Rattle.node_view.specs.Views.{Viewed}
use Rattle.node_view.proofs.HereLaws.{acting_is, all_done_is, busy_is, done_is, empty_is, master_is, replica_is, sees_inside, others_are, own_row_is}
use Rattle.node_view.proofs.SightLaws.{sees}
use Rattle.node_view.proofs.view.View.here.Goals as goal

pub returns : goal.returns
returns c f h held =
    let i = c.self.inside in
    let agrees = c.self.invariant in
    let m = c.args.moving.now in
    let p = c.args.p in
    let here = rules.here f (list_at f p) p in
    let s = sees f c.args.self.now h in
    let t = sees_inside i c.args.self.now f c.self.view_is h in
    let exchange : f.exchange ≡ m.map.exchange = s.exchange ∙ sym c.requires.exchange in
    let me : f.me ≡ i.me = t.me in
    let finished : f.exchange.exchanged ≡ true = ap (λ x. x.exchanged) exchange ∙ c.requires.own.finished in
    let batches : f.batches ≡ m.emigration.targets = s.batches ∙ sym c.requires.targets in
    let acting : c.eq.result ≡ here.acting = c.eq.ensures ∙ acting_is f m.map p i.me c.acting.result exchange me c.acting.ensures in
    let master : c.is_master.result ≡ here.master = c.is_master.ensures ∙ master_is f c.args.self.now p s in
    let replica : c.is_replica.result ≡ here.replica = replica_is f c.args.self.now p i.me c.is_replica.result s (ap (λ (v : Viewed). v.me) c.self.view_is) c.is_replica.ensures in
    let handed : c.is_handed.result ≡ here.handed = c.is_handed.ensures ∙ ap (λ b. bit b.handed p) (sym t.bits) in
    let own_handed : c.is_own_handed.result ≡ here.own_handed = c.is_own_handed.ensures ∙ ap (λ b. bit b.own_handed p) (sym t.bits) in
    let settled : c.has_settled_bit.result ≡ here.settled = c.has_settled_bit.ensures ∙ ap (λ b. bit b.settled p) (sym s.bits) in
    let learnt : c.get.result ≡ here.learnt = c.get.ensures.value ∙ (ap (λ row. bit row p) c.deref.ensures ∙ ap (λ b. bit b.learnt p) (sym t.bits)) in
    let done : c.is_done.result ≡ here.done = done_is f m.emigration.targets p c.is_done.result finished batches c.is_done.ensures in
    let all_done : c.all_done.result ≡ here.all_done = all_done_is f i.progress i.learnt.value p c.all_done.result (subst (λ n. n < partition_count) c.number.ensures.same c.number.ensures.range) (own_row_is f i agrees t) (others_are f i agrees t) t.bits c.all_done.ensures in
    let busy : c.busy_on.result ≡ here.busy = busy_is f i.txns i.notes p c.busy_on.result agrees.noted t.transactions c.busy_on.ensures in
    let empty : c.is_all_empty.result ≡ here.empty = empty_is f m.map p c.is_all_empty.result exchange c.is_all_empty.ensures in
    let holds : c.holds.result ≡ here.holds = c.holds.ensures ∙ ap (λ content. holds_of content p) (sym held) in
    λ j. record {
      acting = acting j;
      master = master j;
      replica = replica j;
      handed = handed j;
      own_handed = own_handed j;
      settled = settled j;
      learnt = learnt j;
      done = done j;
      all_done = all_done j;
      busy = busy j;
      empty = empty j;
      holds = holds j;
    }
