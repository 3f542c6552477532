-- The states of the members' copies, as they entered a view.
use Rattle.std.specs.Prelude.{ℕ, Bool, true, false, if◌then◌else◌, List, Option, Some, None, option_map}
use Rattle.cluster_types.specs.declared.cluster_key.ClusterKey.{ClusterKey}
use Rattle.cluster_types.specs.declared.copy_state.CopyState.{CopyState}
use Rattle.cluster_types.specs.declared.copy_state.CopyState.TheVariants.{Empty, Part, Whole}
use Rattle.journal_lines.specs.declared.line.Line.{Line}
use Rattle.journal_readings.specs.Lines.{is_enter, lines_before}
use Rattle.journal_readings.specs.Contents.{holds_any}
use Rattle.journal_readings.specs.Stamps.{stamp}
use Rattle.journal_readings.specs.Counts.{count}

-- a copy with records is whole by its stamp, and has had so many writes since
abbrev pub stamped : ℕ → ℕ → List Line → Option ClusterKey → CopyState
stamped n p lines None = Part
stamped n p lines (Some k) = Whole k (count k n p lines)

-- the state of the node's copy of the partition
unfoldable pub copy_state : ℕ → ℕ → ℕ → List Line → CopyState
copy_state factor n p lines =
    if holds_any n p lines then stamped n p lines (stamp factor n p lines) else Empty

-- the state in which the node's copy was as the node entered the view; nothing where it hasn't entered it
unfoldable pub row : ℕ → ClusterKey → ℕ → ℕ → List Line → Option CopyState
row factor k n p lines =
    option_map (λ before. copy_state factor n p before) (lines_before (is_enter k n) lines)

abbrev pub is_empty_row : Option CopyState → Bool
is_empty_row (Some Empty) = true
is_empty_row _ = false

-- the key of the view by which a copy is whole
abbrev pub row_whole_key : Option CopyState → Option ClusterKey
row_whole_key (Some (Whole k writes)) = Some k
row_whole_key _ = None
