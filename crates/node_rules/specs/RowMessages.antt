-- What is due of a node that a row reaches.
use Rattle.std.specs.Prelude.{ℕ, ◌&&◌, Bool, true, false, not, [], is_none, if◌then◌else◌}
use Rattle.cluster_types.specs.declared.cluster_key.ClusterKey.{ClusterKey}
use Rattle.journal_lines.specs.declared.line.Line.TheVariants as line
use Rattle.node_rules.specs.Effects.{Effects, lines_and_sends, to_one}
use Rattle.node_rules.specs.Exchange.{first_missing}
use Rattle.node_rules.specs.Facts.{Facts, view_key, members_of_view}
use Rattle.node_rules.specs.Notes.{in_view}
use Rattle.node_rules.specs.Tick.{state}
use Rattle.node_rules.specs.Tables.{only_if}
use Rattle.node_rules.specs.StaleMessages.{stale}

-- whether the exchange is over with these facts and wasn't before
abbrev pub finishes : Facts → Facts → Bool
finishes before now =
    is_none (first_missing now.exchange.rows (members_of_view now)) && not before.exchange.exchanged

-- State: the exchange ends with the last row, and a row that is wanted is answered
abbrev pub due_state : Facts → Facts → ℕ → ClusterKey → Bool → Effects
due_state f now from key wants =
    if in_view f key
    then lines_and_sends (only_if (line.Exchanged f.me (view_key f)) (finishes f now))
    (if wants then to_one from (state f false) else [])
    else stale f
