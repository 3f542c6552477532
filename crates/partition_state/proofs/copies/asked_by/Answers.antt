use Rattle.std.proofs.Common.{◌&&◌, not, ℕ, Bool, take}
use Rattle.cluster_types.proofs.DistinctLaws.{fresh_next}
use Rattle.cluster_types.specs.StateRows.{state_of}
use Rattle.partition_lists.specs.Classes.{is_first_by, same_class_by}
use Rattle.partition_state.proofs.CopyLaws.{fresh_among_some, some_leave_room}
use Rattle.partition_state.proofs.copies.asked_by.Goals as goal

pub push-requires-clause-room : goal.push-requires-clause-room
push-requires-clause-room c =
    let asks : ℕ → Bool = λ n. is_first_by c.args.nodes.now (state_of c.args.copies.now) n && not (same_class_by (state_of c.args.copies.now) c.args.by n) in
    rw c.loop-n.invariant (some_leave_room asks c.args.nodes.now c.loop-n.n-index c.loop-n-test.true c.requires.limit)

pub push-requires-clause-new : goal.push-requires-clause-new
push-requires-clause-new c =
    let asks : ℕ → Bool = λ n. is_first_by c.args.nodes.now (state_of c.args.copies.now) n && not (same_class_by (state_of c.args.copies.now) c.args.by n) in
    rw c.loop-n.invariant
    (fresh_among_some asks (take c.loop-n.n-index c.args.nodes.now) c.n-item.result
    (fresh_next c.args.nodes.now c.loop-n.n-index c.n-item.result c.loop-n-test.true c.n-item.is c.requires.distinct))
