-- The shape that every journal has, whatever its run.
use Rattle.std.specs.Prelude.{◌≡◌, ℕ, ◌==◌, Bool, true, false, ◌&&◌, ◌||◌, not, if◌then◌else◌, List, [], ◌∷◌, ◌++◌, take, Some, slice_get, IsTrue}
use Rattle.std.specs.List.{list_any, list_all, concat}
use Rattle.cluster_types.specs.declared.cluster_key.ClusterKey.{ClusterKey}
use Rattle.cluster_types.specs.declared.member.Member.{Member}
use Rattle.cluster_types.specs.Members.{ids_of}
use Rattle.cluster_types.specs.Distinct.{AreDistinct, IsDescending}
use Rattle.wire_messages.specs.declared.reply.ReplyBody.{ReplyBody}
use Rattle.wire_messages.specs.declared.reply.ReplyBody.TheVariants as reply
use Rattle.wire_messages.specs.declared.scan.ScanRefusal.{ScanRefusal}
use Rattle.wire_messages.specs.declared.scan.ScanRefusal.TheVariants as scan_refusal
use Rattle.journal_lines.specs.declared.refusal.Refusal.{Refusal}
use Rattle.journal_lines.specs.declared.refusal.Refusal.TheVariants as refusal
use Rattle.journal_lines.specs.declared.line.Line.{Line}
use Rattle.journal_lines.specs.declared.line.Line.TheVariants as line
use Rattle.journal_readings.specs.Lines.{is_enter, has_node}
use Rattle.journal_readings.specs.Settings.{nodes}
use Rattle.journal_readings.specs.Views.{members}

-- ---- the header stands first

abbrev pub is_header : Line → Bool
is_header (line.Script v) = true
is_header (line.Factor f) = true
is_header (line.Node n rack) = true
is_header (line.Policy by) = true
is_header _ = false

-- no line is one of a header
abbrev pub AreBehind : List Line → Type 0
AreBehind ls = list_all (λ l. not (is_header l)) ls ≡ true

-- no line but those of the header stands before a line of the header
abbrev pub follows_header : List Line → Line → Bool
follows_header before l = not (is_header l) || list_all is_header before

-- ---- the nodes that a line names

-- 0 is the client
abbrev pub end_nodes : ℕ → List ℕ
end_nodes endpoint = if endpoint == 0 then [] else (endpoint ∷ [])

abbrev pub refusal_nodes : Refusal → List ℕ
refusal_nodes (refusal.Exchanging n) = n ∷ []
refusal_nodes (refusal.NotMaster n) = n ∷ []
refusal_nodes _ = []

abbrev pub reply_nodes : ReplyBody → List ℕ
reply_nodes (reply.Exchanging n) = n ∷ []
reply_nodes (reply.NotMaster n) = n ∷ []
reply_nodes _ = []

abbrev pub scan_refusal_nodes : ScanRefusal → List ℕ
scan_refusal_nodes (scan_refusal.Exchanging n) = n ∷ []
scan_refusal_nodes (scan_refusal.NotMaster n) = n ∷ []
scan_refusal_nodes _ = []

-- in its fields, its list of members, its groups, its cause, and at the ends of its message
unfoldable pub named_nodes : Line → List ℕ
named_nodes (line.Node n rack) = n ∷ []
named_nodes (line.Clock n time) = n ∷ []
named_nodes (line.Groups groups) = concat groups
named_nodes (line.Tick n) = n ∷ []
named_nodes (line.Stop n) = n ∷ []
named_nodes (line.Start n) = n ∷ []
named_nodes (line.Down n) = n ∷ []
named_nodes (line.Up n) = n ∷ []
named_nodes (line.Quiesce n) = n ∷ []
named_nodes (line.Unquiesce n) = n ∷ []
named_nodes (line.Deliver i a b) = end_nodes a ++ end_nodes b
named_nodes (line.Repeat i a b) = end_nodes a ++ end_nodes b
named_nodes (line.Cut i a b size) = end_nodes a ++ end_nodes b
named_nodes (line.Sent i a b bytes) = end_nodes a ++ end_nodes b
named_nodes (line.Short b) = end_nodes b
named_nodes (line.Stale b) = end_nodes b
named_nodes (line.Spent b) = end_nodes b
named_nodes (line.Promise n k) = n ∷ []
named_nodes (line.Enter n k ms) = n ∷ ids_of ms
named_nodes (line.Exchanged n k) = n ∷ []
named_nodes (line.Opened n k t d a) = n ∷ []
named_nodes (line.Refused n d cause) = n ∷ refusal_nodes cause
named_nodes (line.Value n k t d v) = n ∷ []
named_nodes (line.Apply n k t d v) = n ∷ []
named_nodes (line.Done n k t) = n ∷ []
named_nodes (line.Aborted n k t) = n ∷ []
named_nodes (line.Doubt n k t) = n ∷ []
named_nodes (line.Merge n k d v) = n ∷ []
named_nodes (line.Handed n k p) = n ∷ []
named_nodes (line.Settled n k p) = n ∷ []
named_nodes (line.Learn n k p) = n ∷ []
named_nodes (line.Drop n k p) = n ∷ []
named_nodes (line.Map n k p ms a) = n ∷ a ∷ ids_of ms
named_nodes (line.Mapless n cause) = n ∷ refusal_nodes cause
named_nodes (line.Place p ms) = ids_of ms
named_nodes (line.Holds n d v) = n ∷ []
named_nodes (line.Client n d) = n ∷ []
named_nodes (line.Proxy n k x d a acting) = n ∷ acting ∷ []
named_nodes (line.Proxied n k x body) = n ∷ reply_nodes body
named_nodes (line.Unproxied n k x) = n ∷ []
named_nodes (line.Call q n d a) = n ∷ []
named_nodes (line.Again q n) = n ∷ []
named_nodes (line.Reply q n body) = n ∷ reply_nodes body
named_nodes (line.Scan s n p) = n ∷ []
named_nodes (line.Scanned s n k p size) = n ∷ []
named_nodes (line.Unscanned s cause) = scan_refusal_nodes cause
named_nodes _ = []

-- whether all nodes that the line names are declared
abbrev pub names_declared : List Line → Line → Bool
names_declared j l = list_all (has_node (nodes j)) (named_nodes l)

-- ---- entries

-- the members that the line enters with fall
abbrev pub EntersFalling : Line → Type 0
EntersFalling (line.Enter n k ms) = IsDescending (ids_of ms)
EntersFalling _ = Unit {0}

-- the node is one of the members with which it enters, and hasn't entered before
abbrev pub enters_once : List Line → Line → Bool
enters_once before (line.Enter n k ms) =
    has_node (ids_of ms) n && not (list_any (is_enter k n) before)
enters_once before _ = true

-- ---- lines of a view

abbrev pub has_entered : List Line → ClusterKey → ℕ → Bool
has_entered before k n = list_any (is_enter k n) before

-- the node has entered the view that the line names
abbrev pub names_entered : List Line → Line → Bool
names_entered before (line.Exchanged n k) = has_entered before k n
names_entered before (line.Opened n k t d a) = has_entered before k n
names_entered before (line.Value n k t d v) = has_entered before k n
names_entered before (line.Apply n k t d v) = has_entered before k n
names_entered before (line.Merge n k d v) = has_entered before k n
names_entered before (line.Done n k t) = has_entered before k n
names_entered before (line.Settled n k p) = has_entered before k n
names_entered before (line.Learn n k p) = has_entered before k n
names_entered before (line.Drop n k p) = has_entered before k n
names_entered before (line.Map n k p ms a) = has_entered before k n
names_entered before _ = true

abbrev pub have_all_entered : List Line → ClusterKey → Bool
have_all_entered before k = list_all (has_entered before k) (ids_of (members k before))

-- all members of the view have entered it
abbrev pub follows_entries : List Line → Line → Bool
follows_entries before (line.Exchanged n k) = have_all_entered before k
follows_entries before (line.Map n k p ms a) = have_all_entered before k
follows_entries before _ = true

-- ---- the shape

pub record Shape (j : List Line) : Type 0 where
  -- the header's lines stand before all others, and no node is declared twice
  pub header : (i : ℕ) (l : Line) → slice_get j i ≡ Some l → IsTrue (follows_header (take i j) l)
  pub declared_once : AreDistinct (nodes j)
  -- every node that a line names is declared, the members of an entry among them
  pub named : (i : ℕ) (l : Line) → slice_get j i ≡ Some l → IsTrue (names_declared j l)
  -- all entries of one key have one list
  pub one_list : (i o n m : ℕ) (k : ClusterKey) (ms others : List Member)
      → slice_get j i ≡ Some (line.Enter n k ms) → slice_get j o ≡ Some (line.Enter m k others)
      → ms ≡ others
  -- it falls, the node that enters is in it, and no node enters one key twice
  pub falling : (i : ℕ) (l : Line) → slice_get j i ≡ Some l → EntersFalling l
  pub entered : (i : ℕ) (l : Line) → slice_get j i ≡ Some l → IsTrue (enters_once (take i j) l)
  -- a line of a node in its view names a view that the node has entered
  pub in_view : (i : ℕ) (l : Line) → slice_get j i ≡ Some l → IsTrue (names_entered (take i j) l)
  -- a node finishes exchange, and shows a map, where all members have entered
  pub exchanged : (i : ℕ) (l : Line) → slice_get j i ≡ Some l
      → IsTrue (follows_entries (take i j) l)
