use Rattle.partition_lists.proofs.ListLaws.{fresh_id}
use Rattle.partition_lists.proofs.ranks.ids_of.Goals as goal

pub push-requires-clause-new : goal.push-requires-clause-new
push-requires-clause-new c =
    rw (c.loop-key.invariant, c.id_in.ensures)
    (fresh_id c.args.keys.now c.loop-key.key-index 0 c.loop-key-test.true c.requires.distinct)
