-- What a view's members held as they entered, and what was written in it.
use Rattle.std.specs.Prelude.{ℕ, ◌&&◌, List, map, fold, Option, None, option_and_then, bytes_eq}
use Rattle.conflict_order.specs.declared.policy.Policy.{Policy}
use Rattle.conflict_order.specs.declared.version.Version.{Version}
use Rattle.conflict_order.specs.Join.{join}
use Rattle.cluster_types.specs.declared.cluster_key.ClusterKey.{ClusterKey}
use Rattle.journal_lines.specs.declared.line.Line.{Line}
use Rattle.journal_lines.specs.declared.line.Line.TheVariants as line
use Rattle.journal_readings.specs.Lines.{same_key, is_enter, lines_before}
use Rattle.journal_readings.specs.Contents.{content, join_all, joined_if}
use Rattle.journal_readings.specs.Views.{members}

-- what the node held of the record as it entered the view; nothing where it hasn't entered it
unfoldable pub entry : Policy → ClusterKey → ℕ → List ℕ → List Line → Option Version
entry by k n d lines =
    option_and_then (λ before. content by n d before) (lines_before (is_enter k n) lines)

-- the join of what the members held that have entered
abbrev pub joined_entries : Policy → ClusterKey → List ℕ → List Line → Option Version
joined_entries by k d lines = join_all by (map (λ m. entry by k m.id d lines) (members k lines))

abbrev pub applied_in_step : Policy → ClusterKey → List ℕ → Option Version → Line → Option Version
applied_in_step by k d held (line.Apply m l t e v) =
    joined_if (same_key l k && bytes_eq e d) by held v
applied_in_step by k d held _ = held

-- the join of the versions that were applied under the view's key
unfoldable pub applied_in : Policy → ClusterKey → List ℕ → List Line → Option Version
applied_in by k d lines = fold (applied_in_step by k d) None lines

-- the fold of a view: the join of what its members held on entry and of what was applied in it since
unfoldable pub fold_of : Policy → ClusterKey → List ℕ → List Line → Option Version
fold_of by k d lines = join by (joined_entries by k d lines) (applied_in by k d lines)
