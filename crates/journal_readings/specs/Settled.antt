-- Which partitions are settled, and in which of them a write is open.
use Rattle.std.specs.Prelude.{ℕ, ◌==◌, Bool, false, ◌&&◌, ◌||◌, not, List}
use Rattle.std.specs.List.{list_any}
use Rattle.cluster_types.specs.declared.cluster_key.ClusterKey.{ClusterKey}
use Rattle.cluster_types.specs.Partitions.{partition_of}
use Rattle.journal_lines.specs.declared.line.Line.{Line}
use Rattle.journal_lines.specs.declared.line.Line.TheVariants as line
use Rattle.journal_readings.specs.Lines.{same_key, is_exchanged, is_settled_line, is_done_line}
use Rattle.journal_readings.specs.Views.{master}
use Rattle.journal_readings.specs.Stamps.{is_empty_everywhere}

abbrev pub is_settled_by : ClusterKey → ℕ → ℕ → List Line → Bool
is_settled_by k p n lines =
    list_any (is_settled_line k n p) lines
    || (list_any (is_exchanged k n) lines && is_empty_everywhere k p lines)

-- whether the partition is settled in the view: the list master says so, or it has finished exchange and no
-- member had a record of the partition as it entered
unfoldable pub is_settled : ClusterKey → ℕ → List Line → Bool
is_settled k p lines = is_settled_by k p (master k p lines) lines

-- the node's write of the partition in the view that not each other replica has
abbrev pub is_open_write : ClusterKey → ℕ → ℕ → List Line → Line → Bool
is_open_write k p n lines (line.Apply m l t d v) =
    (m == n)
    && (same_key l k && ((partition_of d == p) && not (list_any (is_done_line k n t) lines)))
is_open_write k p n lines _ = false

-- whether a write of the list master is open; a line that leaves it in doubt doesn't end it
unfoldable pub has_open_write : ClusterKey → ℕ → List Line → Bool
has_open_write k p lines = list_any (is_open_write k p (master k p lines) lines) lines
