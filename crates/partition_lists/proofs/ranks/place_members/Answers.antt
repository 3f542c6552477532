use Rattle.std.proofs.Common.{arith}
use Rattle.partition_lists.proofs.LaneLaws.{one_beside, place_beside}
use Rattle.partition_lists.proofs.ranks.place_members.Goals as goal

pub loop-i-preserved : goal.loop-i-preserved
loop-i-preserved c =
    let m = c.index-members-i in
    rw (place_beside c.args.members.now c.args.p c.loop-i.i c.args.states.now c.places_of-places.result m.result c.loop-i-test.true m.is c.requires.states c.places_of-places.ensures)
    (one_beside c.args.members.now c.args.p c.loop-i.i c.loop-i.candidates m.result c.loop-i-test.true (omega (arith, c.loop-i-test.true, c.requires.room, c.loop-i.auto.candidates)) m.is c.loop-i.invariant)
