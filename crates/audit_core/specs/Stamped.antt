-- By which lines copies are known to be whole, by places.
use Rattle.std.specs.Prelude.{◌≡◌, ℕ, ◌==◌, ◌+◌, ◌<◌, ◌≤◌, Bool, true, false, ◌&&◌, if◌then◌else◌, List, [], ◌∷◌, length, take, slice_get, Option, Some, None, option_and_then, All}
use Rattle.journal_lines.specs.declared.line.Line.{Line}
use Rattle.journal_lines.specs.declared.line.Line.TheVariants as line
use Rattle.journal_readings.specs.Lines.{has_node}
use Rattle.journal_readings.specs.Stamps.{begins_whole}
use Rattle.audit_state.specs.declared.history.Change.{Change}
use Rattle.audit_state.specs.declared.stamps.Stamps.{Stamps}
use Rattle.audit_state.specs.Histories.{AreBelow}
use Rattle.audit_state.specs.Stamps.{stamp_marks, judged_of, wholes_of}

-- ---- what the lines say

-- what the line of this place makes of the mark of the node's copy, if it sets it
abbrev pub mark_of : ℕ → ℕ → ℕ → Line → Option (Option ℕ)
mark_of n p place (line.Learn m k q) = if (m == n) && (q == p) then Some (Some place) else None
mark_of n p place (line.Drop m k q) = if (m == n) && (q == p) then Some None else None
mark_of n p place _ = None

-- whether the line is the node's, and says that it finished exchange
abbrev pub finishes_exchange : ℕ → Line → Bool
finishes_exchange n (line.Exchanged m k) = m == n
finishes_exchange n _ = false

-- the places of these lines, from this one on
abbrev pub exchanged_places_from : ℕ → ℕ → List Line → List ℕ
exchanged_places_from n place [] = []
exchanged_places_from n place (l ∷ ls) =
    if finishes_exchange n l then place ∷ exchanged_places_from n (place + 1) ls
    else exchanged_places_from n (place + 1) ls

abbrev pub exchanged_places : ℕ → List Line → List ℕ
exchanged_places n lines = exchanged_places_from n 0 lines

-- whether the line, behind these, makes the node's copy whole as it finishes exchange
abbrev pub makes_whole : ℕ → ℕ → ℕ → List Line → Line → Bool
makes_whole factor n p before (line.Exchanged m k) = begins_whole factor k n p before
makes_whole factor n p before _ = false

abbrev pub makes_whole_at : ℕ → ℕ → ℕ → List Line → ℕ → Option Line → Bool
makes_whole_at factor n p lines place None = false
makes_whole_at factor n p lines place (Some l) = makes_whole factor n p (take place lines) l

-- ---- both

-- what the line of this place changed, if anything
abbrev pub change_at : List Change → ℕ → Option (Option ℕ)
change_at [] place = None
change_at (c ∷ cs) place = if c.line == place then Some c.value else change_at cs place

-- each change stands behind those before it
abbrev pub StandInOrder : List Change → Type 0
StandInOrder [] = Unit {0}
StandInOrder (c ∷ cs) = All (λ d. c.line < d.line) cs × StandInOrder cs

abbrev pub whole_of : Bool → ℕ → Option (Option ℕ)
whole_of true place = Some (Some place)
whole_of false place = None

-- what is noted of the node's copy after these lines: the mark of each line, and of each of the
-- node's first `exchanged` lines whether it makes the copy whole
pub record SeesStamps (factor : ℕ) (j : List Line) (n p : ℕ) (x : Option Stamps) : Type 0 where
  pub marks : (a : ℕ)
      → change_at (stamp_marks x) a ≡ option_and_then (mark_of n p a) (slice_get j a)
  pub mark_lines : AreBelow (length j) (stamp_marks x)
  pub mark_order : StandInOrder (stamp_marks x)
  pub judged : judged_of x ≤ length (exchanged_places n j)
  pub wholes : (a : ℕ)
      → change_at (wholes_of x) a
      ≡ whole_of
      (has_node (take (judged_of x) (exchanged_places n j)) a
      && makes_whole_at factor n p j a (slice_get j a)) a
  pub whole_order : StandInOrder (wholes_of x)
  pub whole_lines : All (λ c. has_node (take (judged_of x) (exchanged_places n j)) c.line ≡ true)
      (wholes_of x)
