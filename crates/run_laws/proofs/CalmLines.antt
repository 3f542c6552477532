-- Each line that says that the rounds have come to calm stands where the world is calm.
use Rattle.std.proofs.Common.{◌≡◌, ℕ, zero, suc, Bool, true, not, List, [], ◌∷◌, ◌++◌, take, map, Some, refl, sym, ap, ◌∙◌, subst, subst₂, append-nil}
use Rattle.std.specs.Prelude.{slice_get}
use Rattle.std.specs.List.{list_all, concat}
use Rattle.conflict_order.specs.declared.policy.Policy.{Policy}
use Rattle.journal_lines.specs.declared.line.Line.{Line}
use Rattle.journal_lines.specs.declared.line.Line.TheVariants as line
use Rattle.journal_readings.specs.CalmEnd.{CalmEnd, IsAtRest}
use Rattle.cluster_rules.specs.Marks as marks
use Rattle.cluster_rules.specs.Marks.{Mark, Writes, lines_among}
use Rattle.cluster_rules.specs.Opening.{Header, header_lines, declared_nodes}
use Rattle.journal_readings.specs.Settings as settings
use Rattle.journal_readings.specs.Settings.{nodes, groups_of, present_role}
use Rattle.journal_readings.specs.Shape.{is_header, AreBehind}
use Rattle.cluster_rules.specs.Steps.{Step, all_marks}
use Rattle.cluster_rules.specs.World.{World, opened}
use Rattle.journal_readings.specs.Lines.{has_node}
use Rattle.cluster_rules.proofs.AllowedLaws.{nodes_stay}
use Rattle.cluster_rules.proofs.MarkLaws.{lines_of_steps, header_adds_nothing, after_all-append}
use Rattle.cluster_rules.proofs.WorldReadings.{up_agrees, role_agrees, nodes_agree, groups_agree}
use Rattle.cluster_laws.specs.Ground.{Ground}
use Rattle.cluster_laws.specs.Journals.{IsJournal, journal}
use Rattle.cluster_laws.specs.Laws.{picture}
use Rattle.cluster_laws.specs.Licences as licences
use Rattle.cluster_laws.specs.Picture.{start}
use Rattle.cluster_laws.proofs.At.{and_left, and_right, and_both}
use Rattle.run_laws.specs.Claims.{OfEveryJournal}
use Rattle.run_laws.specs.Fronts.{Front, world_of, front_after_all, Tied}
use Rattle.run_laws.specs.Taken.{Taken, first, ground_of}
use Rattle.run_laws.proofs.CalmEnds.{AtCalm, at_rest}
use Rattle.run_laws.proofs.CalmReadings.{journal_told}
use Rattle.run_laws.proofs.EveryJournal.{every_journal}
use Rattle.run_laws.proofs.Journal.{Walks, first_tied, world_all, marks_are_a_journal}
use Rattle.run_laws.proofs.Places.{Grouped, Placed, placed, Behind, behind, header_passes}
use Rattle.run_laws.proofs.Premised.{taken_walks}
use Rattle.run_laws.proofs.Words.{all_of}

-- ---- lists

all_taken : (test : Line → Bool) (ls : List Line) (i : ℕ) → list_all test ls ≡ true → list_all test (take i ls) ≡ true
all_taken test [] zero e = refl
all_taken test [] (suc i) e = refl
all_taken test (l ∷ ls) zero e = refl
all_taken test (l ∷ ls) (suc i) e = and_both (test l) _ (and_left (test l) _ e) (all_taken test ls i (and_right (test l) _ e))

-- before the first step the one group has each declared node, and no others
pub first_grouped : (h : Header) → Grouped (world_of (first h))
first_grouped h = and_both (list_all (has_node (declared_nodes h)) (concat (declared_nodes h ∷ []))) _
    (all_of _ (concat (declared_nodes h ∷ [])) (λ n e. subst (λ (ns : List ℕ). has_node ns n ≡ true) (append-nil (declared_nodes h)) e))
    (all_of _ (declared_nodes h) (λ n e. subst (λ (ns : List ℕ). has_node ns n ≡ true) (sym (append-nil (declared_nodes h))) e))

-- ---- the readings

lines_are : (h : Header) (ms : List Mark) → lines_among (map Writes (header_lines h) ++ ms) ≡ header_lines h ++ lines_among ms
lines_are h ms = go (header_lines h)
  where
    go : (ls : List Line) → lines_among (map Writes ls ++ ms) ≡ ls ++ lines_among ms
    go [] = refl
    go (l ∷ ls) = ap (λ (xs : List Line). l ∷ xs) (go ls)

up_is : (h : Header) (ms : List Mark) (n : ℕ) → has_node (declared_nodes h) n ≡ true → settings.is_node_up n (header_lines h ++ lines_among ms) ≡ ((marks.after_all (opened h) ms).facts n).up
up_is h ms n e = ap (settings.is_node_up n) (sym (lines_are h ms)) ∙ up_agrees h (map Writes (header_lines h) ++ ms) n e
    ∙ ap (λ (w : World). (w.facts n).up) (after_all-append (opened h) (map Writes (header_lines h)) ms ∙ ap (λ (w : World). marks.after_all w ms) (header_adds_nothing (opened h) h))

-- ---- the line of calm

calm_place : (h : Header) (ss : List Step) → Taken h ss → (i rounds : ℕ) → slice_get (journal (header_lines h) (lines_among (all_marks ss))) i ≡ Some (line.Calm rounds)
    → (z : Front) × AtCalm (nodes (journal (header_lines h) (lines_among (all_marks ss)))) (ground_of h ss) z (picture (ground_of h ss) (journal (header_lines h) (lines_among (all_marks ss))) i) (take i (journal (header_lines h) (lines_among (all_marks ss))))
calm_place h ss t i rounds e = (
  z,
  record {
    ground = o.ground;
    sane = p.sane;
    tied = subst (Tied z) (sym (ap (licences.picture_after_all G start) b.before ∙ header_passes G start h (take b.place ls))) p.tied;
    told = journal_told (header_lines h) G ls o i;
    calm = p.ok.1;
    grouped = p.grouped;
    known = ap (λ (x : World). x.nodes) world ∙ nodes_stay (take p.count (all_marks ss)) (opened h) ∙ sym (nodes_agree h ls w.behind);
    declared = ap nodes lines_here ∙ nodes_agree h (lines_among (take p.count (all_marks ss))) behind_here ∙ sym (nodes_agree h ls w.behind);
    groups = ap groups_of lines_here ∙ groups_agree h (take p.count (all_marks ss)) behind_here ∙ sym (ap (λ (x : World). x.network.groups) world);
    ups = λ n e. ap (settings.is_node_up n) lines_here ∙ up_is h (take p.count (all_marks ss)) n (subst (λ (ns : List ℕ). has_node ns n ≡ true) (nodes_agree h ls w.behind) e) ∙ sym (ap (λ (x : World). (x.facts n).up) world);
    roles = λ n. ap (present_role n) lines_here ∙ role_agrees h (take p.count (all_marks ss)) n t.declared.distinct behind_here ∙ sym (ap (λ (x : World). (x.facts n).role) world);
  },
)
  where
    w : Walks h ss
    w = taken_walks h ss t

    G : Ground
    G = ground_of h ss

    ls : List Line
    ls = lines_among (all_marks ss)

    o : IsJournal (header_lines h) G ls
    o = marks_are_a_journal h ss t.header w

    b : Behind h ls i (line.Calm rounds)
    b = behind h ls i (line.Calm rounds) refl e

    p : Placed G (first h) start (all_marks ss) b.place (line.Calm rounds)
    p = placed G (first h) start (all_marks ss) b.place (line.Calm rounds) w.goes (first_tied h) (first_grouped h) b.stands

    z : Front
    z = front_after_all (first h) (take p.count (all_marks ss))

    world : world_of z ≡ marks.after_all (opened h) (take p.count (all_marks ss))
    world = world_all (first h) (take p.count (all_marks ss))

    lines_here : take i (journal (header_lines h) ls) ≡ header_lines h ++ lines_among (take p.count (all_marks ss))
    lines_here = b.before ∙ ap (λ (xs : List Line). header_lines h ++ xs) p.before

    behind_here : AreBehind (lines_among (take p.count (all_marks ss)))
    behind_here = subst AreBehind p.before (all_taken (λ l. not (is_header l)) ls b.place w.behind)

marks_calm_end : (h : Header) (ss : List Step) → Taken h ss → CalmEnd (journal (header_lines h) (lines_among (all_marks ss)))
marks_calm_end h ss t = record {
  at_rest = λ i rounds e.
      let x = calm_place h ss t i rounds e in
      subst₂ (λ (by : Policy) (factor : ℕ). IsAtRest by factor (take i (journal (header_lines h) (lines_among (all_marks ss))))) o.by o.factor (at_rest (ground_of h ss) x.0 _ _ x.1);
}
  where
    o : IsJournal (header_lines h) (ground_of h ss) (lines_among (all_marks ss))
    o = marks_are_a_journal h ss t.header (taken_walks h ss t)

pub calm_ends : OfEveryJournal CalmEnd
calm_ends = every_journal CalmEnd (λ h ss t. subst (λ (ls : List Line). CalmEnd (journal (header_lines h) ls)) (lines_of_steps ss) (marks_calm_end h ss t))
