use Rattle.std.proofs.Common.{◌≡◌, take}
use Rattle.immigrate.specs.Digests.{record_digests}
use Rattle.immigrate.proofs.merging.digest_list.Given as goal

abbrev pub invariant-loop-i : goal.invariant-loop-i
invariant-loop-i l = l.digests ≡ record_digests (take l.i l.records)
