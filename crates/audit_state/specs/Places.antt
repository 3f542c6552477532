-- Versions by the places of the lines that bring them.
use Rattle.std.specs.Prelude.{ℕ, Bool, not, List, Option, Some, None, slice_get, option_and_then}
use Rattle.std.specs.Ordering.{is_gt}
use Rattle.std.specs.Option.{option_cmp}
use Rattle.conflict_order.specs.declared.policy.Policy.{Policy}
use Rattle.conflict_order.specs.declared.version.Version.{Version}
use Rattle.conflict_order.specs.Order.{version_cmp}
use Rattle.journal_lines.specs.declared.line.Line.{Line}
use Rattle.journal_lines.specs.declared.line.Line.TheVariants as line

-- the version that a line brings
abbrev pub brought_version : Line → Option Version
brought_version (line.Apply n k t d v) = Some v
brought_version (line.Merge n k d v) = Some v
brought_version _ = None

-- the version at a place
abbrev pub placed_version : List Line → ℕ → Option Version
placed_version lines place = option_and_then brought_version (slice_get lines place)

-- the version at a place, if it is one
abbrev pub placed : List Line → Option ℕ → Option Version
placed lines None = None
placed lines (Some place) = placed_version lines place

-- whether the first is at most the second
abbrev pub is_at_most : Policy → Option Version → Option Version → Bool
is_at_most by a b = not (is_gt (option_cmp (version_cmp by) a b))
