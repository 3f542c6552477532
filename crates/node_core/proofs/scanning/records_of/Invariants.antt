use Rattle.std.proofs.Common.{◌≡◌, take}
use Rattle.node_rules.specs.Batches.{records_of}
use Rattle.node_core.proofs.scanning.records_of.Given as goal

abbrev pub invariant-loop-digest : goal.invariant-loop-digest
invariant-loop-digest l = l.records ≡ records_of l.store.versions (take l.digest-index l.digests)
