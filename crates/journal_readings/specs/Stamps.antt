-- Which copies are known to be whole, and by which view.
--
-- The state of a copy speaks of its stamp, and a stamp of the states of other copies. But it asks of those
-- only whether they are empty, and to know that no stamp is needed: so the stamp comes first, by itself.
use Rattle.std.specs.Prelude.{ℕ, ◌==◌, Bool, false, ◌&&◌, not, if◌then◌else◌, List, [], Option, Some, None}
use Rattle.std.specs.List.{list_all}
use Rattle.cluster_types.specs.declared.cluster_key.ClusterKey.{ClusterKey}
use Rattle.journal_lines.specs.declared.line.Line.{Line}
use Rattle.journal_lines.specs.declared.line.Line.TheVariants as line
use Rattle.journal_readings.specs.Lines.{is_enter, lines_before, fold_along}
use Rattle.journal_readings.specs.Contents.{holds_any}
use Rattle.journal_readings.specs.Views.{members, is_replica}

-- whether a node that had these lines before it entered had no record of the partition; one that hasn't entered isn't known to have none
abbrev pub entered_empty : ℕ → ℕ → Option (List Line) → Bool
entered_empty n p None = false
entered_empty n p (Some before) = not (holds_any n p before)

-- whether the node had no record of the partition as it entered the view
unfoldable pub is_empty_at_entry : ClusterKey → ℕ → ℕ → List Line → Bool
is_empty_at_entry k n p lines = entered_empty n p (lines_before (is_enter k n) lines)

-- whether no member had one
unfoldable pub is_empty_everywhere : ClusterKey → ℕ → List Line → Bool
is_empty_everywhere k p lines = list_all (λ m. is_empty_at_entry k m.id p lines) (members k lines)

-- a copy is whole from the start where no member has a record and the node is a replica
abbrev pub begins_whole : ℕ → ClusterKey → ℕ → ℕ → List Line → Bool
begins_whole factor k n p lines = is_empty_everywhere k p lines && is_replica factor k p n lines

abbrev pub stamp_step : ℕ → ℕ → ℕ → List Line → Option ClusterKey → Line → Option ClusterKey
stamp_step factor n p before stamp (line.Learn m k q) =
    if (m == n) && (q == p) then Some k else stamp
stamp_step factor n p before stamp (line.Exchanged m k) =
    if (m == n) && begins_whole factor k n p before then Some k else stamp
stamp_step factor n p before stamp (line.Drop m k q) = if (m == n) && (q == p) then None else stamp
stamp_step factor n p before stamp _ = stamp

-- the key of the view by which the node's copy was known to be whole last, since the node last dropped it
unfoldable pub stamp : ℕ → ℕ → ℕ → List Line → Option ClusterKey
stamp factor n p lines = fold_along (stamp_step factor n p) [] None lines
