-- The journal of a run: the lines of its header, and then those of its steps.
use Rattle.std.specs.Prelude.{◌≡◌, ℕ, true, IsTrue, List, [], ◌∷◌, ◌++◌, Some, None, slice_get}
use Rattle.std.specs.List.{list_all}
use Rattle.cluster_types.specs.declared.cluster_key.ClusterKey.{ClusterKey}
use Rattle.cluster_types.specs.declared.member.Member.{Member}
use Rattle.cluster_types.specs.Distinct.{contains}
use Rattle.journal_lines.specs.declared.line.Line.{Line}
use Rattle.journal_lines.specs.declared.line.Line.TheVariants as line
use Rattle.journal_readings.specs.Settings.{policy_of, factor_of, nodes}
use Rattle.journal_readings.specs.Maps.{with_roles}
use Rattle.journal_readings.specs.Shape.{is_header}
use Rattle.cluster_laws.specs.Ground.{Ground, IsGround, view_list, view_acting}
use Rattle.cluster_laws.specs.Picture.{Packet, Picture, start}
use Rattle.cluster_laws.specs.Licences.{Licensed}
use Rattle.journal_readings.specs.Examples.{one, key}
use Rattle.cluster_laws.specs.Laws.{picture}
use Rattle.cluster_laws.specs.Weaker.{lone_run}

-- the journal of a header's lines and those of the steps
abbrev pub journal : List Line → List Line → List Line
journal header lines = header ++ lines

-- the message that was sent under that number was sent to this endpoint
abbrev pub IsFor : Picture → ℕ → ℕ → Type 0
IsFor w i b = (p : Packet) → w.packet i ≡ Some p → p.to ≡ b

-- a member shows its map once it has finished the exchange: the list by its view's members, each with its role, and the
-- acting master by their rows
pub record ShowsGround (G : Ground) (w : Picture) (n : ℕ) (k : ClusterKey) (p : ℕ)
    (ms : List Member) (a : ℕ) : Type 0 where
  pub exchanged : (w.stay n k).exchanged ≡ true
  pub members : ms ≡ with_roles (G.members k) (view_list G k p)
  pub acting : a ≡ view_acting G k p

-- what a line of a journal says besides its licence: a node that stores a version is declared, a message arrives where it
-- was sent to, and a map is shown by the ground
abbrev pub FitsGround : Ground → List ℕ → Picture → Line → Type 0
FitsGround G declared w (line.Apply n k t d v) = IsTrue (contains declared n)
FitsGround G declared w (line.Merge n k d v) = IsTrue (contains declared n)
FitsGround G declared w (line.Deliver i a b) = IsFor w i b
FitsGround G declared w (line.Repeat i a b) = IsFor w i b
FitsGround G declared w (line.Cut i a b size) = IsFor w i b
FitsGround G declared w (line.Map n k p ms a) = ShowsGround G w n k p ms a
FitsGround G declared w _ = Unit {0}

-- the lines are those of steps behind those of that header, over that ground
pub record IsJournal (h : List Line) (G : Ground) (lines : List Line) : Type 0 where
  pub ground : IsGround G
  -- the header has no other lines than a header's
  pub header : list_all is_header h ≡ true
  -- the header says how versions compare and how many replicas there are
  pub by : G.by ≡ policy_of (journal h lines)
  pub factor : G.factor ≡ factor_of (journal h lines)
  -- each line has its licence and fits
  pub licensed : Licensed G start lines
  pub fits : (i : ℕ) (l : Line) → slice_get lines i ≡ Some l
      → FitsGround G (nodes (journal h lines)) (picture G lines i) l

-- it holds of every journal
abbrev pub OfJournals : (List Line → Type 0) → Type 0
OfJournals P =
    (h : List Line) (G : Ground) (lines : List Line) → IsJournal h G lines → P (journal h lines)

-- the header of the node that runs alone
abbrev pub lone_header : List Line
lone_header = line.Script 1 ∷ line.Node 1 None ∷ []

-- its run, and the map that it shows at the end
abbrev pub shown_run : List Line
shown_run = lone_run ++ line.Map 1 (key 2 1) 4095 one 1 ∷ []
