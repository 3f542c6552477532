use Rattle.std.proofs.Common.{ap, arith, length, length-append, take, filter, ◌≡◌, true}
use Rattle.std.proofs.lemmas.Bool.Decides.{nat_tests}
use Rattle.heartbeat.specs.Entries.{is_entry_below}
use Rattle.heartbeat.proofs.EntryLaws.{filter_room}
use Rattle.heartbeat.proofs.entries.Entries.add_below.Goals as goal

pub push-requires : goal.push-requires
push-requires c =
    let pass : is_entry_below c.args.n c.entry-item.result ≡ true = grind (arith, nat_tests, c.if-lt.true, c.lt.ensures) in
    let room = filter_room (is_entry_below c.args.n) c.args.entries.now c.loop-entry.entry-index c.entry-item.result c.loop-entry-test.true c.entry-item.is pass in
    omega (arith, ap length c.loop-entry.invariant, length-append c.args.self.now (filter (is_entry_below c.args.n) (take c.loop-entry.entry-index c.args.entries.now)), room, c.requires)
