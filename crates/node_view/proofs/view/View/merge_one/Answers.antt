use Rattle.std.proofs.Common.{◌≡◌, ℕ, sym, ap, subst, ◌∙◌}
use Rattle.conflict_order.specs.Contents.{joined}
use Rattle.cluster_types.specs.Partitions.{partition_of}
use Rattle.immigrate.proofs.BatchLaws.{on_ok}
use Rattle.node_rules.specs.Facts.{view_key}
use Rattle.node_rules.specs.Notes.{merged}
use Rattle.node_view.specs.Views.{IsNodeInView, IsSeenTo, Viewed, viewed_key}
use Rattle.node_view.proofs.MergeLaws.{stamps_are}
use Rattle.node_view.proofs.NodeLaws.{but_in_view, merged_but, node_but, node_seen}
use Rattle.node_view.proofs.view.View.merge_one.Goals as goal

pub returns-clause-node : goal.returns-clause-node
returns-clause-node c f h =
    let v = c.args.self.now in
    let s = c.args.store.now in
    let u = c.spoil.new.store in
    let d = c.args.digest in
    let p = partition_of d in
    let g = merged f (view_key f) d c.args.version in
    let live = c.refresh.new.self.watch.live in
    let came : c.join_in.new.self.versions ≡ joined s.by s.versions d c.args.version = on_ok _ _ c.join_in.ensures.joined (c.join_in.ensures.reserved c.requires) in
    let key : c.self.inside.key ≡ viewed_key v = c.self.invariant.key
    ∙ ap viewed_key c.self.view_is in
    let but = merged_but f v s u d c.args.version (c.spoil.ensures.versions ∙ came)
    (c.spoil.ensures.stamps ∙ stamps_are _ _ _ _ _ _ c.join_in.ensures.stamps c.partition_of.ensures key)
    (c.spoil.ensures.policy ∙ c.join_in.ensures.policy) (node_but p f v s h) in
    let seen : IsSeenTo p g v.watch.live live = subst (λ (q : ℕ). IsSeenTo q g v.watch.live live) c.partition_of-2.ensures (c.refresh.ensures.live g (but_in_view p g v u but) but.content) in
    subst (λ (w : Viewed). IsNodeInView g w u) (sym c.refresh.ensures.same) (node_seen p g v u live but seen)
