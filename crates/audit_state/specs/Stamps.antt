-- What is noted of the lines by which a copy is known to be whole.
use Rattle.std.specs.Prelude.{◌≡◌, ℕ, nat_lt, Bool, true, false, if◌then◌else◌, List, [], ◌∷◌, slice_get, Option, Some, None, option_and_then}
use Rattle.cluster_types.specs.declared.cluster_key.ClusterKey.{ClusterKey}
use Rattle.journal_lines.specs.declared.line.Line.{Line}
use Rattle.journal_lines.specs.declared.line.Line.TheVariants as line
use Rattle.audit_state.specs.declared.history.Change.{Change}
use Rattle.audit_state.specs.declared.stamps.Stamps.{Stamps}
use Rattle.audit_state.specs.Histories.{last_before}

-- nothing is noted of the copy
pub record IsFreshStamps (x : Stamps) : Type 0 where
  pub marks : x.marks ≡ []
  pub judged : x.judged ≡ 0
  pub wholes : x.wholes ≡ []

abbrev pub stamp_marks : Option Stamps → List Change
stamp_marks None = []
stamp_marks (Some x) = x.marks

abbrev pub judged_of : Option Stamps → ℕ
judged_of None = 0
judged_of (Some x) = x.judged

abbrev pub wholes_of : Option Stamps → List Change
wholes_of None = []
wholes_of (Some x) = x.wholes

-- what the later of the two changes made of it
abbrev pub later : Option Change → Option Change → Option ℕ
later None None = None
later (Some mark) None = mark.value
later None (Some whole) = whole.value
later (Some mark) (Some whole) = if nat_lt mark.line whole.line then whole.value else mark.value

-- the place of the line that stamped the copy last in so many lines
abbrev pub stamp_place : Stamps → ℕ → Option ℕ
stamp_place x lines = later (last_before x.marks lines) (last_before x.wholes lines)

-- the key of the view that the line names, if it is one by which a copy becomes whole
abbrev pub stamping_key : Line → Option ClusterKey
stamping_key (line.Learn n k p) = Some k
stamping_key (line.Exchanged n k) = Some k
stamping_key _ = None

-- the key of the view by which the line at the place stamps
abbrev pub stamping_key_at : List Line → ℕ → Option ClusterKey
stamping_key_at lines place = option_and_then stamping_key (slice_get lines place)

-- the key of the view that stamped the copy last in so many lines
abbrev pub stamped_key : List Line → Option Stamps → ℕ → Option ClusterKey
stamped_key all None lines = None
stamped_key all (Some x) lines = option_and_then (stamping_key_at all) (stamp_place x lines)

-- the change of the line that makes the copy whole
abbrev pub whole_changes : Bool → ℕ → List Change
whole_changes true place = record { line = place; value = Some place } ∷ []
whole_changes false place = []
