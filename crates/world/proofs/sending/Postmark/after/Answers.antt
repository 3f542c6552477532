use Rattle.std.proofs.Common.{arith}
use Rattle.world.proofs.NetLaws.{fewer_left}
use Rattle.world.proofs.sending.Postmark.after.Goals as goal

pub returns-in-Some-clause-in_flight : goal.returns-in-Some-clause-in_flight
returns-in-Some-clause-in_flight c =
    omega (arith, fewer_left c.args.net.now c.args.landing c.in-Some.field-0 c.in-Some.is c.len-in_flight.ensures.numbers c.requires.flying, c.len-in_flight.ensures.value)
