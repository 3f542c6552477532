use Rattle.std.proofs.Common.{◌≡◌, ap, arith, filter, length, length-append, map, sym, take, true, ◌∙◌}
use Rattle.std.proofs.lemmas.List.{length-map}
use Rattle.heartbeat.specs.Entries.{member_in, names_from_below}
use Rattle.heartbeat.proofs.EntryLaws.{filter_room}
use Rattle.heartbeat.proofs.room.Room.add_below.Goals as goal

pub push-requires : goal.push-requires
push-requires c =
    let naming = names_from_below c.args.me in
    let front = filter naming (take c.loop-entry.entry-index c.args.entries.now) in
    let pass : naming c.entry-item.result ≡ true = sym c.names_from_below.ensures ∙ c.if-names_from_below.true in
    let room = filter_room naming c.args.entries.now c.loop-entry.entry-index c.entry-item.result c.loop-entry-test.true c.entry-item.is pass in
    omega (arith, ap length c.loop-entry.invariant, length-append c.args.self.now (map member_in front), length-map front member_in, room, c.requires)
