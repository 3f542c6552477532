-- The key by which a copy was whole as its node entered a view.
use Rattle.std.proofs.Common.{◌≡◌, ℕ, zero, suc, ◌<◌, ◌≤◌, Bool, true, false, ◌&&◌, cond, List, [], ◌∷◌, ◌++◌, length, Option, Some, None, option_map, refl, sym, ap, ap₂, subst, ◌∙◌, arith}
use Rattle.std.specs.Prelude.{is_some, take, drop, slice_get, option_and_then, All}
use Rattle.std.specs.List.{list_any, list_all}
use Rattle.std.proofs.lemmas.List.{take-append-drop}
use Rattle.cluster_types.specs.declared.cluster_key.ClusterKey.{ClusterKey}
use Rattle.cluster_types.specs.declared.copy_state.CopyState.TheVariants.{Empty}
use Rattle.cluster_types.specs.declared.member.Member.{Member}
use Rattle.partition_lists.specs.Lists as lists
use Rattle.journal_lines.specs.declared.line.Line.{Line}
use Rattle.journal_lines.specs.declared.line.Line.TheVariants as line
use Rattle.journal_readings.specs.Lines.{has_node, is_enter, lines_before}
use Rattle.journal_readings.specs.Settings.{factor_of}
use Rattle.journal_readings.specs.Contents.{holds_any}
use Rattle.journal_readings.specs.Rows.{row, copy_state, stamped, row_whole_key}
use Rattle.journal_readings.specs.Shape.{Shape, has_entered, have_all_entered}
use Rattle.journal_readings.specs.Stamps.{stamp, entered_empty, is_empty_at_entry, is_empty_everywhere, begins_whole}
use Rattle.journal_readings.specs.Views.{members}
use Rattle.journal_readings.proofs.Fronts.{and_left, and_right}
use Rattle.std.proofs.lemmas.List.Folds.{list_all-map}
use Rattle.audit_laws.specs.Fits.{enters_key}
use Rattle.audit_laws.proofs.Tests.{differ}
use Rattle.audit_laws.proofs.MapSteps.{lines_before-front, members-front, entered_key}
use Rattle.audit_state.specs.declared.history.Change.{Change}
use Rattle.audit_core.specs.declared.judge.Judge.{Judge}
use Rattle.audit_state.specs.declared.nodes.Node.{Node}
use Rattle.audit_state.specs.declared.stamps.Stamps.{Stamps}
use Rattle.audit_state.specs.Histories.{last_before}
use Rattle.audit_core.specs.Known.{node_at, stamps_at}
use Rattle.audit_core.specs.Sees.{SeesState}
use Rattle.audit_core.specs.Stamped.{SeesStamps, exchanged_places, makes_whole_at, whole_of}
use Rattle.audit_state.specs.Stamps.{stamp_marks, judged_of, wholes_of, stamped_key, later}
use Rattle.audit_core.specs.Wholes as known
use Rattle.audit_core.proofs.LineLaws.{finished_below, among_first}
use Rattle.audit_core.proofs.StampPlaces.{stamp_there, keyed}
use Rattle.audit_core.proofs.WholeLaws.{IsFront, before_front, held_so, begins_so}

-- ---- what is fixed once all members have entered

all_in : (f g : Member → Bool) (test : Member → Bool) (ms : List Member) → ((m : Member) → test m ≡ true → f m ≡ g m) → list_all test ms ≡ true → list_all f ms ≡ list_all g ms
all_in f g test [] h e = refl
all_in f g test (m ∷ ms) h e = ap₂ (λ (a b : Bool). a && b) (h m (and_left (test m) _ e)) (all_in f g test ms h (and_right (test m) _ e))

everywhere-front : (k : ClusterKey) (p : ℕ) (a b : List Line) → list_any (enters_key k) a ≡ true → have_all_entered a k ≡ true → is_empty_everywhere k p (a ++ b) ≡ is_empty_everywhere k p a
unfolding is_empty_everywhere is_empty_at_entry
everywhere-front k p a b e h =
    ap (list_all (λ (m : Member). is_empty_at_entry k m.id p (a ++ b))) (members-front k a b e)
    ∙ all_in (λ (m : Member). is_empty_at_entry k m.id p (a ++ b)) (λ (m : Member). is_empty_at_entry k m.id p a) (λ (m : Member). has_entered a k m.id) (members k a)
    (λ m q. ap (entered_empty m.id p) (lines_before-front (is_enter k m.id) a b q)) (sym (list_all-map (has_entered a k) (λ (m : Member). m.id) (members k a)) ∙ h)

begins-front : (factor : ℕ) (k : ClusterKey) (n p : ℕ) (a b : List Line) → list_any (enters_key k) a ≡ true → have_all_entered a k ≡ true → begins_whole factor k n p (a ++ b) ≡ begins_whole factor k n p a
begins-front factor k n p a b e h = ap₂ (λ (x y : Bool). x && y) (everywhere-front k p a b e h) (ap (λ (ms : List Member). lists.is_replica_of n ms p factor) (members-front k a b e))

-- where a node finishes exchange, what begins whole is fixed
fixed : (factor : ℕ) (j : List Line) (a m n p : ℕ) (k : ClusterKey) → Shape j → slice_get j a ≡ Some (line.Exchanged m k) → begins_whole factor k n p j ≡ begins_whole factor k n p (take a j)
fixed factor j a m n p k s e =
    ap (begins_whole factor k n p) (sym (take-append-drop a j))
    ∙ begins-front factor k n p (take a j) (drop a j) (entered_key k m (take a j) (s.in_view a (line.Exchanged m k) e)) (s.exchanged a (line.Exchanged m k) e)

-- ---- what is judged is what the lines say

taken_slice : (i : ℕ) (all : List Line) (a : ℕ) → a < length (take i all) → slice_get all a ≡ slice_get (take i all) a
taken_slice zero all a h = absurd (omega (arith, h))
taken_slice (suc i) [] a h = refl
taken_slice (suc i) (x ∷ all) zero h = refl
taken_slice (suc i) (x ∷ all) (suc a) h = taken_slice i all a (omega (arith, h))

-- the node's line makes its copy whole by what is known exactly where it does by the lines before it
whole_so : (s : Judge) (i : ℕ) (all : List Line) (n p a : ℕ) (o : Option Line) → SeesState s i all → Shape (take i all) → slice_get (take i all) a ≡ o
    → known.makes_whole s n p o ≡ makes_whole_at (factor_of (take i all)) n p (take i all) a o
whole_so s i all n p a None h shape e = refl
whole_so s i all n p a (Some (line.Exchanged m k)) h shape e = begins_so s i all k n p h ∙ fixed (factor_of (take i all)) (take i all) a m n p k shape e
whole_so s i all n p a (Some l) h shape e = refl

pub judged_so : (s : Judge) (i : ℕ) (all : List Line) (n p a count : ℕ) (b : Bool) → SeesState s i all → Shape (take i all) → has_node (take count (exchanged_places n (take i all))) a ≡ b
    → (b && known.makes_whole s n p (slice_get s.lines.now a)) ≡ (b && makes_whole_at (factor_of (take i all)) n p (take i all) a (slice_get (take i all) a))
judged_so s i all n p a count false h shape e = refl
judged_so s i all n p a count true h shape e =
    let below : a < length (take i all) = finished_below n (take i all) a (among_first count (exchanged_places n (take i all)) a e) in
    ap (known.makes_whole s n p) (ap (λ (ls : List Line). slice_get ls a) h.lines ∙ taken_slice i all a below) ∙ whole_so s i all n p a (slice_get (take i all) a) h shape refl

pub exchanged_so : (s : Judge) (i : ℕ) (all : List Line) (n : ℕ) → SeesState s i all → is_some (node_at s n) ≡ true → known.exchanged_by (node_at s n) ≡ exchanged_places n (take i all)
exchanged_so s i all n h e = go (node_at s n) refl e
  where
    go : (o : Option Node) → node_at s n ≡ o → is_some o ≡ true → known.exchanged_by o ≡ exchanged_places n (take i all)
    go None q r = differ r refl
    go (Some node) q r = (h.frame.nodes n node q).exchanged

-- what is noted is right by what is known
pub right_so : (s : Judge) (i : ℕ) (all : List Line) (n p : ℕ) → SeesState s i all → Shape (take i all) → is_some (node_at s n) ≡ true → known.JudgesRight s n p (stamps_at s n p)
right_so s i all n p h shape e =
    let x : SeesStamps (factor_of (take i all)) (take i all) n p (stamps_at s n p) = h.frame.stamps n p in
    let same : known.exchanged_by (node_at s n) ≡ exchanged_places n (take i all) = exchanged_so s i all n h e in
    record {
      judged = subst (λ (ns : List ℕ). judged_of (stamps_at s n p) ≤ length ns) (sym same) x.judged;
      wholes = λ a. x.wholes a ∙ (ap (λ (b : Bool). whole_of b a) (sym (judged_so s i all n p a (judged_of (stamps_at s n p)) (has_node (take (judged_of (stamps_at s n p)) (exchanged_places n (take i all))) a) h shape refl))
          ∙ ap (λ (ns : List ℕ). whole_of (has_node (take (judged_of (stamps_at s n p)) ns) a && known.makes_whole s n p (slice_get s.lines.now a)) a) (sym same));
      order = x.whole_order;
      lines = subst (λ (ns : List ℕ). All (λ (c : Change). has_node (take (judged_of (stamps_at s n p)) ns) c.line ≡ true) (wholes_of (stamps_at s n p))) (sym same) x.whole_lines;
    }

-- ---- rows

pub row_key : (factor : ℕ) (k : ClusterKey) (n p : ℕ) (j : List Line) (o : Option (List Line)) → row_whole_key (option_map (λ before. copy_state factor n p before) o) ≡ option_and_then (λ b. cond (holds_any n p b) (stamp factor n p b) None) o
unfolding copy_state
row_key factor k n p j None = refl
row_key factor k n p j (Some b) = go (holds_any n p b) (stamp factor n p b)
  where
    go : (c : Bool) (o : Option ClusterKey) → row_whole_key (Some (cond c (stamped n p b o) Empty)) ≡ cond c o None
    go true None = refl
    go true (Some l) = refl
    go false o = refl

key_place : (s : Judge) (i : ℕ) (all : List Line) (n p : ℕ) (b : List Line) → SeesState s i all → judged_of (stamps_at s n p) ≡ length (exchanged_places n (take i all)) → IsFront b (take i all)
    → stamped_key s.lines.now (stamps_at s n p) (length b) ≡ stamp (factor_of (take i all)) n p b
key_place s i all n p b h judged f =
    told (stamps_at s n p)
    ∙ (sym (stamp_there (factor_of (take i all)) n p (take i all) s.lines.now (λ a below. ap (λ (ls : List Line). slice_get ls a) h.lines ∙ taken_slice i all a below) (stamps_at s n p) (h.frame.stamps n p) judged (length b) f.short)
    ∙ ap (stamp (factor_of (take i all)) n p) f.front)
  where
    told : (x : Option Stamps) → stamped_key s.lines.now x (length b) ≡ keyed s.lines.now (later (last_before (stamp_marks x) (length b)) (last_before (wholes_of x) (length b)))
    told None = refl
    told (Some x) = refl

key_by : (s : Judge) (i : ℕ) (all : List Line) (n p : ℕ) (o : Option (List Line)) → SeesState s i all → ((b : List Line) → o ≡ Some b → IsFront b (take i all)) → judged_of (stamps_at s n p) ≡ length (exchanged_places n (take i all))
    → known.whole_key_at s n p (option_map length o) ≡ option_and_then (λ b. cond (holds_any n p b) (stamp (factor_of (take i all)) n p b) None) o
key_by s i all n p None h f judged = refl
key_by s i all n p (Some b) h f judged =
    ap₂ (λ (c : Bool) (x : Option ClusterKey). cond c x None) (held_so s i all n p b h (f b refl)) (key_place s i all n p b h judged (f b refl))

-- the key by which a copy was whole is told, where all of the node's `exchanged` lines are judged
pub key_so : (s : Judge) (i : ℕ) (all : List Line) (k : ClusterKey) (n p : ℕ) → SeesState s i all → judged_of (stamps_at s n p) ≡ length (exchanged_places n (take i all))
    → known.whole_key_at s n p (option_map length (lines_before (is_enter k n) (take i all))) ≡ row_whole_key (row (factor_of (take i all)) k n p (take i all))
unfolding row
key_so s i all k n p h judged =
    key_by s i all n p (lines_before (is_enter k n) (take i all)) h (before_front (is_enter k n) (take i all)) judged
    ∙ sym (row_key (factor_of (take i all)) k n p (take i all) (lines_before (is_enter k n) (take i all)))

-- ---- what is asked of one member

-- the key of a member's row, by the lines before its entry
pub row_told : (factor : ℕ) (k : ClusterKey) (n p : ℕ) (j : List Line) (o : Option (List Line)) → lines_before (is_enter k n) j ≡ o → option_and_then (λ b. cond (holds_any n p b) (stamp factor n p b) None) o ≡ row_whole_key (row factor k n p j)
unfolding row
row_told factor k n p j o e = sym (ap (λ (x : Option (List Line)). row_whole_key (option_map (λ before. copy_state factor n p before) x)) e ∙ row_key factor k n p j o)
