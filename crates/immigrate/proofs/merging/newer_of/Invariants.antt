use Rattle.std.proofs.Common.{◌≡◌, take, filter}
use Rattle.node_rules.specs.Merging.{is_newer_than_held}
use Rattle.immigrate.proofs.merging.newer_of.Given as goal

abbrev pub invariant-loop-i : goal.invariant-loop-i
invariant-loop-i l = l.newer ≡ filter (is_newer_than_held l.store.by l.store.versions) (take l.i l.records)
