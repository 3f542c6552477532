use Rattle.std.proofs.Common.{◌≡◌, length}
use Rattle.record_store.specs.Store.{HasRoom}
use Rattle.node_rules.specs.Merging.{joined_all}
use Rattle.immigrate.specs.Digests.{record_digests}
use Rattle.immigrate.proofs.merging.merge_planned.Given as goal

abbrev pub invariant-loop-digest : goal.invariant-loop-digest
invariant-loop-digest l = record {
  room : HasRoom (record_digests l.newer) l.store.spare;
  versions : joined_all l.store.by l.store.versions l.newer ≡ joined_all l.initial.store.by l.initial.store.versions l.initial.newer;
  stamps : l.store.stamps ≡ l.initial.store.stamps;
  policy : l.store.by ≡ l.initial.store.by;
}

abbrev pub decreases-loop-digest : goal.decreases-loop-digest
decreases-loop-digest l = length l.newer
