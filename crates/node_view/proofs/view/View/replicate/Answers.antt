use Rattle.std.proofs.Common.{◌<◌, ℕ, List, sym, subst}
use Rattle.cluster_types.specs.Partitions.{partition_of}
use Rattle.record_store.specs.Store.{room_at}
use Rattle.node_view.specs.Plans.{with_count}
use Rattle.node_view.specs.Rooms.{HasRoomToCount}
use Rattle.node_view.specs.Views.{IsNodeInView}
use Rattle.node_view.proofs.view.View.replicate.Goals as goal

pub count-requires-clause-room : goal.count-requires-clause-room
count-requires-clause-room c x e = subst (λ (q : ℕ). HasRoomToCount c.args.self.now.room q x) (sym c.partition_of.ensures) (c.requires.room.1 x e)

pub merge_newer-requires : goal.merge_newer-requires
merge_newer-requires c x e = subst (λ (spare : List ℕ). 0 < room_at spare (partition_of c.args.write.digest)) (sym c.count.ensures.room) (c.requires.room.0 x e)

pub returns : goal.returns
returns c f h =
    let p = partition_of c.args.write.digest in
    c.merge_newer.ensures (with_count f p c.args.write.counted)
    (subst (λ (q : ℕ). IsNodeInView (with_count f q c.args.write.counted) c.count.new.self c.count.new.store) c.partition_of.ensures (c.count.ensures.node f h))
