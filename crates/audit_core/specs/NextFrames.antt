-- What a line makes of the frame of what is known.
use Rattle.std.specs.Prelude.{◌≡◌, ℕ, ◌||◌, Bool, true, false, cond, List, [], ◌∷◌, ◌++◌, Option, Some, None, is_some}
use Rattle.cluster_types.specs.declared.cluster_key.ClusterKey.{ClusterKey}
use Rattle.journal_lines.specs.declared.line.Line.{Line}
use Rattle.journal_readings.specs.Lines.{is_enter, is_exchanged}
use Rattle.journal_readings.specs.Settings.{clock_step}
use Rattle.journal_readings.specs.Views.{view_step, members}
use Rattle.audit_laws.specs.Fits.{enters_key}
use Rattle.audit_state.specs.declared.history.Change.{Change}
use Rattle.audit_core.specs.declared.judge.Judge.{Judge}
use Rattle.audit_state.specs.declared.nodes.Node.{Node}
use Rattle.audit_state.specs.declared.stamps.Stamps.{Stamps}
use Rattle.audit_state.specs.declared.views.View.{View}
use Rattle.audit_core.specs.Frames.{Both}
use Rattle.audit_core.specs.Known.{node_at, kept_view, stamps_at}
use Rattle.audit_state.specs.Views.{entry_line, has_exchanged}
use Rattle.audit_core.specs.Stamped.{mark_of, exchanged_places_from}
use Rattle.audit_state.specs.Stamps.{stamp_marks, judged_of, wholes_of}

-- what the line of this place makes of the node
pub record NextNode (n place : ℕ) (l : Line) (old new : Node) : Type 0 where
  pub clock : new.clock ≡ clock_step n old.clock l
  pub view : new.view ≡ view_step n old.view l
  pub exchanged : new.exchanged.items
      ≡ old.exchanged.items ++ exchanged_places_from n place (l ∷ [])

-- of a view that was entered
pub record NextView (k : ClusterKey) (place : ℕ) (l : Line) (old new : View) : Type 0 where
  pub key : new.key ≡ old.key
  pub members : new.members ≡ old.members
  pub ranks : new.ranks ≡ old.ranks
  pub entered : (n : ℕ)
      → entry_line new n
      ≡ cond (is_some (entry_line old n)) (entry_line old n)
      (cond (is_enter k n l) (Some place) None)
  pub exchanged : (n : ℕ) → has_exchanged new n ≡ (has_exchanged old n || is_exchanged k n l)

-- of one that it is the first to enter
pub record FirstView (k : ClusterKey) (place : ℕ) (l : Line) (new : View) : Type 0 where
  pub enters : enters_key k l ≡ true
  pub key : new.key ≡ k
  pub ranks : new.ranks ≡ members k (l ∷ [])
  pub members : new.members ≡ members k (l ∷ [])
  pub entered : (n : ℕ) → entry_line new n ≡ cond (is_enter k n l) (Some place) None
  pub exchanged : (n : ℕ) → has_exchanged new n ≡ is_exchanged k n l

abbrev pub ViewAfter : ClusterKey → ℕ → Line → Option View → Option View → Type 0
ViewAfter k place l None None = enters_key k l ≡ false
ViewAfter k place l None (Some new) = FirstView k place l new
ViewAfter k place l (Some old) None = ⊥
ViewAfter k place l (Some old) (Some new) = NextView k place l old new

-- the change that a line of this place makes
abbrev pub mark_changes : ℕ → Option (Option ℕ) → List Change
mark_changes place None = []
mark_changes place (Some value) = record { line = place; value = value } ∷ []

-- of what is noted of a copy
pub record NextStamps (n p place : ℕ) (l : Line) (old new : Option Stamps) : Type 0 where
  pub marks : stamp_marks new ≡ stamp_marks old ++ mark_changes place (mark_of n p place l)
  pub judged : judged_of new ≡ judged_of old
  pub wholes : wholes_of new ≡ wholes_of old

pub record NextFrame (place : ℕ) (l : Line) (old new : Judge) : Type 0 where
  pub policy : new.by ≡ old.by
  pub factor : new.factor ≡ old.factor
  pub nodes : (n : ℕ) → Both (NextNode n place l) (node_at old n) (node_at new n)
  pub views : (k : ClusterKey) → ViewAfter k place l (kept_view old k) (kept_view new k)
  pub stamps : (n p : ℕ) → NextStamps n p place l (stamps_at old n p) (stamps_at new n p)

-- whether the node finished exchange in the view
abbrev pub finished_in : Option View → ℕ → Bool
finished_in None n = false
finished_in (Some x) n = has_exchanged x n
