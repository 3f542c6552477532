use Rattle.std.proofs.Common.{ap, arith, length, length-take, take, filter}
use Rattle.std.proofs.lemmas.List.{length-map}
use Rattle.heartbeat.specs.Entries.{still_heard, one_older}
use Rattle.heartbeat.proofs.EntryLaws.{filter_short}
use Rattle.heartbeat.proofs.entries.Entries.aged.Goals as goal
use Rattle.std.proofs.lemmas.Grind.{common_steps}

pub push-requires : goal.push-requires
push-requires c =
    let front = take c.loop-entry.entry-index c.as_slice-entry-items.result.now in
    omega (arith, ap length c.loop-entry.invariant, length-map (filter still_heard front) one_older, filter_short still_heard front, length-take c.loop-entry.entry-index c.as_slice-entry-items.result.now, ap length c.as_slice-entry-items.ensures.same, c.as_slice-entry-items.ensures.limit, c.loop-entry-test.true)

pub loop-entry-preserved : goal.loop-entry-preserved
loop-entry-preserved c = grind (arith, common_steps)
