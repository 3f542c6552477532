-- What a node shows of its map and of its store.
use Rattle.std.specs.Prelude.{ℕ, ◌+◌, ◌-◌, List, [], ◌∷◌, Option, Some, None, map}
use Rattle.std.specs.List.{range_with_len}
use Rattle.std.specs.FinMap as finite
use Rattle.cluster_types.specs.declared.map_view.MapEntry.{MapEntry}
pub use Rattle.cluster_types.specs.Members.{with_roles}
use Rattle.journal_lines.specs.declared.line.Line.{Line}
use Rattle.journal_lines.specs.declared.line.Line.TheVariants as line
use Rattle.journal_lines.specs.declared.refusal.Refusal.{Refusal}
use Rattle.node_rules.specs.Effects.{Effects, lines_only}
use Rattle.node_rules.specs.Facts.{Facts, view_key, members_of_view, list_at}
use Rattle.node_rules.specs.Map.{entry_of}
use Rattle.node_rules.specs.Requests.{map_refusal}

-- the line of a partition that is served so: its whole list, each member with its role in the view, and
-- the acting master by the rows
abbrev pub map_line : Facts → ℕ → MapEntry → Line
map_line f p e = line.Map f.me (view_key f) p (with_roles (members_of_view f) e.list) e.acting

-- the line of each partition from one to another, the last one too
abbrev pub map_lines : Facts → ℕ → ℕ → List Line
map_lines f from to =
    map (λ p. map_line f p (entry_of (list_at f p) f.exchange.rows p))
    (range_with_len from (to + 1 - from))

-- these lines where nothing refuses the map, and otherwise one that says why
abbrev pub map_if : Facts → ℕ → ℕ → Option Refusal → List Line
map_if f from to (Some cause) = line.Mapless f.me cause ∷ []
map_if f from to None = map_lines f from to

-- what is due where the node is to show its map of these partitions: a line for each, or the cause why it
-- has no map
abbrev pub due_map : Facts → ℕ → ℕ → Effects
due_map f from to = lines_only (map_if f from to (map_refusal f))

-- what is due where the node is to show what it holds of a record, also while it is stopped
abbrev pub due_show : Facts → List ℕ → Effects
due_show f digest = lines_only (line.Holds f.me digest (finite.get f.store.content digest) ∷ [])
