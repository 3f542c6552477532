use Rattle.std.proofs.Common.{List, [], ◌∷◌, ◌++◌, ap, arith, filter, length, length-append, map, ◌∙◌}
use Rattle.std.proofs.lemmas.List.{length-map}
use Rattle.cluster_types.specs.declared.member.Member.{Member}
use Rattle.heartbeat.specs.Entries.{member_in, names_from_above, names_from_below, of_itself}
use Rattle.heartbeat.proofs.EntryLaws.{itself_named, named_apart, room_named}
use Rattle.heartbeat.proofs.room.members_naming.Goals as goal

pub add_above-requires : goal.add_above-requires
add_above-requires c = omega (arith, ap length c.new-room.ensures, room_named c.args.me c.args.entries.now, c.requires)

pub push-requires : goal.push-requires
push-requires c =
    let above = filter (names_from_above c.args.me) c.args.entries.now in
    omega (
      arith,
      ap length c.new-room.ensures,
      ap length c.add_above.ensures,
      length-append c.new-room.result (map member_in above),
      length-map above member_in,
      room_named c.args.me c.args.entries.now,
      c.requires,
    )

pub add_below-requires : goal.add_below-requires
add_below-requires c =
    let above = filter (names_from_above c.args.me) c.args.entries.now in
    omega (
      arith,
      ap length c.new-room.ensures,
      ap length c.add_above.ensures,
      ap length c.push.ensures,
      length-append c.new-room.result (map member_in above),
      length-append c.add_above.new.self (member_in (of_itself c.args.me c.args.role) ∷ []),
      length-map above member_in,
      room_named c.args.me c.args.entries.now,
      c.requires,
    )

pub returns : goal.returns
returns c =
    let below = map member_in (filter (names_from_below c.args.me) c.args.entries.now) in
    c.add_below.ensures
    ∙ ap (λ (ms : List Member). ms ++ below) (c.push.ensures ∙ ap (λ (ms : List Member). ms ++ member_in (of_itself c.args.me c.args.role) ∷ []) (rw c.new-room.ensures at c.add_above.ensures))
    ∙ named_apart c.args.me c.args.role c.args.entries.now (itself_named c.args.me c.args.role)
