-- What the shape of a journal asks of a line, by what is known of the lines before it.
use Rattle.std.specs.Prelude.{◌==◌, ℕ, Bool, true, not, ◌&&◌, ◌||◌, Option, Some, None, List, is_some}
use Rattle.std.specs.List.{list_any, list_all}
use Rattle.cluster_types.specs.MembersEqual.{same_members}
use Rattle.cluster_types.specs.declared.cluster_key.ClusterKey.{ClusterKey}
use Rattle.cluster_types.specs.declared.member.Member.{Member}
use Rattle.journal_lines.specs.declared.line.Line.{Line}
use Rattle.journal_lines.specs.declared.line.Line.TheVariants as line
use Rattle.journal_readings.specs.Shape.{is_header, named_nodes}
use Rattle.audit_core.specs.declared.judge.Judge.{Judge}
use Rattle.audit_state.specs.declared.views.View.{View}
use Rattle.audit_core.specs.Known.{is_declared, kept_view}
use Rattle.audit_state.specs.Views.{entry_line, has_every_entry}

-- a line of the header comes while no other has come
abbrev pub header_goes_on : Judge → Line → Bool
header_goes_on s l = not s.begun || not (is_header l)

-- a node that the line declares isn't known yet
abbrev pub declares_unknown_node : Judge → Line → Bool
declares_unknown_node s (line.Node n rack) = not (is_declared s n)
declares_unknown_node s _ = true

-- the nodes that the line names are known; one that it declares may be named by it
abbrev pub names_known_nodes : Judge → Line → Bool
names_known_nodes s (line.Node n rack) = true
names_known_nodes s l = list_all (is_declared s) (named_nodes l)

-- the place of the node's entry, if it entered
abbrev pub entry_in : Option View → ℕ → Option ℕ
entry_in None n = None
entry_in (Some x) n = entry_line x n

abbrev pub has_entry : Judge → ClusterKey → ℕ → Bool
has_entry s k n = is_some (entry_in (kept_view s k) n)

-- whether these are the members of the view, if it is known
abbrev pub agrees_with : Option View → List Member → Bool
agrees_with None ms = true
agrees_with (Some x) ms = same_members x.members ms

abbrev pub enters_rightly : Judge → Line → Bool
enters_rightly s (line.Enter n k ms) =
    list_any (λ m. m.id == n) ms && not (has_entry s k n) && agrees_with (kept_view s k) ms
enters_rightly s _ = true

-- the node's entry of the view that the line names is known
abbrev pub names_known_entry : Judge → Line → Bool
names_known_entry s (line.Exchanged n k) = has_entry s k n
names_known_entry s (line.Opened n k t d a) = has_entry s k n
names_known_entry s (line.Value n k t d v) = has_entry s k n
names_known_entry s (line.Apply n k t d v) = has_entry s k n
names_known_entry s (line.Merge n k d v) = has_entry s k n
names_known_entry s (line.Done n k t) = has_entry s k n
names_known_entry s (line.Settled n k p) = has_entry s k n
names_known_entry s (line.Learn n k p) = has_entry s k n
names_known_entry s (line.Drop n k p) = has_entry s k n
names_known_entry s (line.Map n k p ms a) = has_entry s k n
names_known_entry s _ = true

abbrev pub all_entered_in : Option View → Bool
all_entered_in None = true
all_entered_in (Some x) = has_every_entry x

-- all members of the view have entered it
abbrev pub follows_every_entry : Judge → Line → Bool
follows_every_entry s (line.Exchanged n k) = all_entered_in (kept_view s k)
follows_every_entry s (line.Map n k p ms a) = all_entered_in (kept_view s k)
follows_every_entry s _ = true

abbrev pub fits_shape : Judge → Line → Bool
fits_shape s l =
    header_goes_on s l && declares_unknown_node s l && names_known_nodes s l && enters_rightly s l
    && names_known_entry s l && follows_every_entry s l
