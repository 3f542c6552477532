-- What is due of a node that is told how far another has come. The number of partitions is an argument, since a node
-- tells of all that it knows them settled.
use Rattle.std.specs.Prelude.{ℕ, ◌&&◌, Bool, false, if◌then◌else◌}
use Rattle.cluster_types.specs.declared.cluster_key.ClusterKey.{ClusterKey}
use Rattle.node_rules.specs.Effects.{Effects, nothing, sends_only, to_one}
use Rattle.node_rules.specs.Facts.{Facts}
use Rattle.node_rules.specs.Notes.{in_view}
use Rattle.node_rules.specs.Standing.{knows_all_settled}
use Rattle.node_rules.specs.Tick.{progress_message}
use Rattle.node_rules.specs.StaleMessages.{stale}

-- Progress: one that is wanted is answered by a node that, with this message, knows every partition settled
abbrev pub due_progress : ℕ → Facts → Facts → ℕ → ClusterKey → Bool → Effects
due_progress n f now from key wants =
    if in_view f key
    then (if wants && knows_all_settled now n 0
    then sends_only (to_one from (progress_message n now false))
    else nothing)
    else stale f
