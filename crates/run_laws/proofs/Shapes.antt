-- The header's lines stand first, and who finishes an exchange or shows a map comes after all members.
use Rattle.std.proofs.Common.{◌≡◌, ℕ, zero, suc, Bool, true, not, List, [], ◌∷◌, ◌++◌, Some, take, refl, sym, ap, ◌∙◌, subst, ⊎_elim}
use Rattle.std.specs.Prelude.{slice_get}
use Rattle.std.specs.List.{list_all}
use Rattle.cluster_types.specs.Distinct.{AreDistinct}
use Rattle.cluster_types.specs.Members.{ids_of}
use Rattle.cluster_types.specs.declared.cluster_key.ClusterKey.{ClusterKey}
use Rattle.cluster_types.specs.declared.member.Member.{Member}
use Rattle.journal_lines.specs.declared.line.Line.{Line}
use Rattle.journal_lines.specs.declared.line.Line.TheVariants as line
use Rattle.cluster_rules.specs.Opening.{Header, header_lines}
use Rattle.journal_readings.specs.Settings.{nodes}
use Rattle.journal_readings.specs.Shape.{is_header, AreBehind, follows_header, has_entered, have_all_entered, follows_entries}
use Rattle.cluster_rules.specs.Steps.{Step, all_marks}
use Rattle.cluster_rules.specs.Marks.{lines_among}
use Rattle.cluster_rules.proofs.MarkLaws.{lines_of_steps}
use Rattle.cluster_rules.proofs.WorldReadings.{nodes_agree}
use Rattle.cluster_laws.specs.Ground.{Ground, is_view_member}
use Rattle.cluster_laws.specs.Journals.{IsJournal, ShowsGround, journal}
use Rattle.cluster_laws.specs.Laws.{picture}
use Rattle.cluster_laws.specs.Licences.{Ok}
use Rattle.cluster_laws.specs.Picture.{Picture}
use Rattle.cluster_laws.specs.Stay.{Stay}
use Rattle.cluster_laws.proofs.All.{ok_at}
use Rattle.cluster_laws.proofs.At.{and_left, and_right, and_both, or_cases, differ, some_same, no_some, truth}
use Rattle.cluster_laws.proofs.ReadingClaims.{all_from}
use Rattle.cluster_laws.proofs.ReadingLines.{or_left_true, or_right_true}
use Rattle.cluster_laws.proofs.ReadingTies.{Tied, journal_tied, journal_licensed, journal_fits, in_view_entered, members_of}
use Rattle.key_laws.specs.Laws.{EntriesAgree}
use Rattle.key_laws.specs.Traced.{untouched}
use Rattle.key_laws.proofs.Licensed.{licensed_entries_agree}
use Rattle.key_laws.proofs.Runs as runs
use Rattle.run_laws.specs.Claims.{OfEveryJournal, StandsInOrder}
use Rattle.run_laws.specs.Taken.{Taken, ground_of}
use Rattle.run_laws.proofs.EveryJournal.{every_journal, all_marks_licensed, all_lines_are}
use Rattle.run_laws.proofs.Journal.{Walks, marks_are_a_journal}
use Rattle.run_laws.proofs.Places.{header_is}
use Rattle.run_laws.proofs.Premised.{taken_walks}

-- ---- the header

all_pass : (test : Line → Bool) (ls : List Line) (i : ℕ) (l : Line) → list_all test ls ≡ true → slice_get ls i ≡ Some l → test l ≡ true
all_pass test [] i l a e = no_some e
all_pass test (x ∷ ls) zero l a e = ap test (sym (some_same e)) ∙ and_left (test x) _ a
all_pass test (x ∷ ls) (suc i) l a e = all_pass test ls i l (and_right (test x) _ a) e

header_first : (h : Header) (ls : List Line) → AreBehind ls → (i : ℕ) (l : Line) → slice_get (header_lines h ++ ls) i ≡ Some l → follows_header (take i (header_lines h ++ ls)) l ≡ true
header_first [] ls b i l e = or_left_true (not (is_header l)) _ (all_pass (λ x. not (is_header x)) ls i l b e)
header_first (x ∷ h) ls b zero l e = or_right_true (not (is_header l)) true refl
header_first (x ∷ h) ls b (suc i) l e = ⊎_elim (λ a. or_left_true (not (is_header l)) _ a) (λ a. or_right_true (not (is_header l)) _ (and_both (is_header _) _ (header_is x) a))
    (or_cases (not (is_header l)) _ (header_first h ls b i l e))

-- ---- entries

-- where all members have entered, and one that is known, a reader finds them all
all_in : (G : Ground) (ns : List ℕ) (j : List Line) (w : Picture) → Tied G ns j w → (n : ℕ) (k : ClusterKey) → (w.stay n k).entered ≡ true → ((m : ℕ) → is_view_member G k m ≡ true → (w.stay m k).entered ≡ true) → have_all_entered j k ≡ true
all_in G ns j w t n k own all = subst (λ (ms : List Member). list_all (has_entered j k) (ids_of ms) ≡ true) (sym (members_of G ns j w t n k own)) (all_from (has_entered j k) (ids_of (G.members k)) (λ m e. t.entered m k ∙ all m e))

-- who has finished the exchange has entered
finished_entered : (G : Ground) (ns : List ℕ) (j : List Line) (w : Picture) → Tied G ns j w → (n : ℕ) (k : ClusterKey) → (w.stay n k).exchanged ≡ true → (w.stay n k).entered ≡ true
finished_entered G ns j w t n k e = ⊎_elim (λ a. a) (λ a. differ e (ap (λ (s : Stay). s.exchanged) ((t.sound.whole.known.entered n k).fresh a))) (truth (w.stay n k).entered)

entries_first : (h : List Line) (G : Ground) (lines : List Line) → IsJournal h G lines → (i : ℕ) (l : Line) → slice_get (journal h lines) i ≡ Some l → follows_entries (take i (journal h lines)) l ≡ true
entries_first h G lines o i (line.Exchanged n k) e =
    let t : Tied G (nodes (journal h lines)) (take i (journal h lines)) (picture G (journal h lines) i) = journal_tied h G lines o i in
    let ok : Ok G (picture G (journal h lines) i) (line.Exchanged n k) = ok_at G (journal h lines) i (line.Exchanged n k) (journal_licensed h G lines o) e in
    all_in G (nodes (journal h lines)) (take i (journal h lines)) (picture G (journal h lines) i) t n k
    (in_view_entered G (nodes (journal h lines)) (take i (journal h lines)) (picture G (journal h lines) i) t n k ok.1.is_in.view)
    (λ m mem. (t.sound.whole.known.cross n k).rows m (ok.1.rows m mem))
entries_first h G lines o i (line.Map n k p ms a) e =
    let t : Tied G (nodes (journal h lines)) (take i (journal h lines)) (picture G (journal h lines) i) = journal_tied h G lines o i in
    let shown : ShowsGround G (picture G (journal h lines) i) n k p ms a = journal_fits h G lines o i (line.Map n k p ms a) e in
    all_in G (nodes (journal h lines)) (take i (journal h lines)) (picture G (journal h lines) i) t n k
    (finished_entered G (nodes (journal h lines)) (take i (journal h lines)) (picture G (journal h lines) i) t n k shown.exchanged)
    (λ m mem. (t.sound.whole.known.cross n k).all_in shown.exchanged m mem)
entries_first h G lines o i _ e = refl

-- ---- of every journal

marks_stand : (h : Header) (ss : List Step) → Taken h ss → StandsInOrder (journal (header_lines h) (lines_among (all_marks ss)))
marks_stand h ss t = let w : Walks h ss = taken_walks h ss t in record {
  header = header_first h (lines_among (all_marks ss)) w.behind;
  declared_once = subst AreDistinct (sym (nodes_agree h (lines_among (all_marks ss)) w.behind)) t.declared.distinct;
  exchanged = entries_first (header_lines h) (ground_of h ss) (lines_among (all_marks ss)) (marks_are_a_journal h ss t.header w);
}

pub stands_in_order : OfEveryJournal StandsInOrder
stands_in_order = every_journal StandsInOrder (λ h ss t. subst (λ (ls : List Line). StandsInOrder (journal (header_lines h) ls)) (lines_of_steps ss) (marks_stand h ss t))

pub entries_agree : OfEveryJournal EntriesAgree
entries_agree = every_journal EntriesAgree (λ h ss t. subst EntriesAgree (all_lines_are h ss) (licensed_entries_agree (untouched _) _ (runs.start h) (all_marks_licensed h ss t)))
