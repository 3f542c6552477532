use Rattle.std.proofs.Common.{◌-◌, ◌^◌, arith}
use Rattle.bench_parts.proofs.SendingLaws.{below_after, held_after}
use Rattle.bench_parts.proofs.records.send_next.Goals as goal

pub returns-in-Taken-clause-held : goal.returns-in-Taken-clause-held
returns-in-Taken-clause-held c =
    held_after c.args.store.now.versions c.args.going.now c.sent.new.self c.on_ack.new.self c.args.to c.in-Some.batch c.requires.held c.sent.ensures c.on_ack.ensures.after

pub returns-in-Taken-clause-limit : goal.returns-in-Taken-clause-limit
returns-in-Taken-clause-limit c =
    below_after c.args.going.now c.sent.new.self c.on_ack.new.self c.args.to (2 ^ 32 - 1) c.in-Some.batch (omega (arith, c.if-number-ge4294967295.false)) c.sent.ensures c.on_ack.ensures.after

pub returns-in-Spent-clause-held : goal.returns-in-Spent-clause-held
returns-in-Spent-clause-held c =
    held_after c.args.store.now.versions c.args.going.now c.sent.new.self c.on_ack.new.self c.args.to c.in-Some.batch c.requires.held c.sent.ensures c.on_ack.ensures.after

pub returns-in-Spent-clause-limit : goal.returns-in-Spent-clause-limit
returns-in-Spent-clause-limit c =
    below_after c.args.going.now c.sent.new.self c.on_ack.new.self c.args.to (2 ^ 32 - 1) c.in-Some.batch (omega (arith, c.if-number-ge4294967295.false)) c.sent.ensures c.on_ack.ensures.after
