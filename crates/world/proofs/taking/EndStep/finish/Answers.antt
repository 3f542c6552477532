use Rattle.std.proofs.Common.{arith}
use Rattle.world.proofs.SendingLaws.{landing_sent, same_all_posted, same_then}
use Rattle.world.proofs.taking.EndStep.finish.Goals as goal

pub send_all-requires-clause-sent : goal.send_all-requires-clause-sent
send_all-requires-clause-sent c =
    omega (arith, c.requires.sent, c.requires.few, c.land.ensures.same.sent, landing_sent c.args.net.now c.args.self.landing)

pub send_all-requires-clause-room : goal.send_all-requires-clause-room
send_all-requires-clause-room c = omega (arith, c.requires.place, c.land.ensures.room)

pub returns-clause-net : goal.returns-clause-net
returns-clause-net c =
    same_then _ _ _ (same_all_posted _ _ c.args.self.from c.args.self.effects.sends c.land.ensures.same) c.send_all.ensures
