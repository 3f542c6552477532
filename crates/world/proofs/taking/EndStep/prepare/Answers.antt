use Rattle.std.proofs.Common.{length, arith}
use Rattle.world.proofs.SendingLaws.{sends_within}
use Rattle.world.specs.Sent.{landing_from}
use Rattle.world.proofs.taking.EndStep.prepare.Goals as goal

pub returns-then-len-gt-MESSAGE_LIMIT-clause-too_long : goal.returns-then-len-gt-MESSAGE_LIMIT-clause-too_long
returns-then-len-gt-MESSAGE_LIMIT-clause-too_long c = λ is w.
    let few = sends_within c.args.self.from c.args.net.now.sent (length (landing_from c.args.net.now c.args.self.landing).flying) c.args.self.effects.sends c.args.self.effects.lines c.args.ledger.now.journal.lines w in
    omega (arith, few, c.if-len-gt-MESSAGE_LIMIT.true, c.len.ensures)
