use Rattle.std.proofs.Common.{◌≡◌, take}
use Rattle.node_rules.specs.Batches.{records_of}
use Rattle.emigrate.proofs.target.new_batch.Given as goal

abbrev pub invariant-loop-i : goal.invariant-loop-i
invariant-loop-i l = l.records ≡ records_of l.store.versions (take l.i l.pending.items)
