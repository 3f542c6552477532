use Rattle.std.proofs.Common.{ℕ, List, ◌<◌, length, sym, subst}
use Rattle.std.specs.Prelude.{Contains}
use Rattle.cluster_types.specs.NodeLists.{IsNodeList}
use Rattle.cluster_rules.specs.World.{is_up}
use Rattle.world.specs.Steps.{standing}
use Rattle.world.proofs.UpLaws.{passed_new, passed_room}
use Rattle.world.proofs.world.World.up_among.Goals as goal

pub push-requires-clause-room : goal.push-requires-clause-room
push-requires-clause-room c =
    subst (λ (up : List ℕ). length up < 16) (sym c.loop-id.invariant)
    (passed_room (is_up (standing c.args.self.now)) c.as_slice-id-items.result.now c.loop-id.id-index (subst IsNodeList (sym c.as_slice-id-items.ensures.same) c.as_slice-id-items.ensures.valid) c.loop-id-test.true)

pub push-requires-clause-new : goal.push-requires-clause-new
push-requires-clause-new c =
    subst (λ (up : List ℕ). ¬ (Contains up c.id-item.result)) (sym c.loop-id.invariant)
    (passed_new (is_up (standing c.args.self.now)) c.as_slice-id-items.result.now c.loop-id.id-index c.id-item.result (subst IsNodeList (sym c.as_slice-id-items.ensures.same) c.as_slice-id-items.ensures.valid) c.loop-id-test.true c.id-item.is)
