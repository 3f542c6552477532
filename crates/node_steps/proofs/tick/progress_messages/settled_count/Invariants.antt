use Rattle.std.proofs.Common.{◌≡◌, ◌<◌, ◌≤◌, All, count_by, take}
use Rattle.cluster_types.specs.Partitions.{partition_count}
use Rattle.node_steps.proofs.tick.progress_messages.settled_count.Given as goal

-- so far as many as the first ones settle, all of them among those that are counted
abbrev pub invariant-loop-settling : goal.invariant-loop-settling
invariant-loop-settling l =
    (l.count ≡ count_by (λ s. s.settles) (take l.settling-index l.settlings))
    × (l.count ≤ l.settling-index)
    × All (λ s. s.partition < partition_count) (take l.settling-index l.settlings)
