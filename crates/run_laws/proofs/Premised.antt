-- The messages of steps that are taken are read as they were sent, so that the steps' lines are a journal.
use Rattle.std.proofs.Common.{ℕ, ◌+◌, ◌<◌, ◌^◌, List, [], ◌∷◌, sym, ◌∙◌, subst, arith, lit<}
use Rattle.std.specs.Prelude.{map}
use Rattle.std.specs.List.{AllByRecursion}
use Rattle.std.specs.FinMap.{get-empty}
use Rattle.std.specs.Ordering.{nat_cmp}
use Rattle.std.specs.Cmp.Lexicographic.{slice_cmp}
use Rattle.std.proofs.lemmas.List.Elements.{recursion_from_All}
use Rattle.conflict_order.specs.declared.policy.Policy.{Policy}
use Rattle.cluster_types.specs.Partitions.{partition_count}
use Rattle.journal_lines.specs.declared.line.Line.{Line}
use Rattle.cluster_rules.specs.Allowed.{IsAllowed, AreAllowed}
use Rattle.cluster_rules.specs.DueEvents.{due_of}
use Rattle.cluster_rules.specs.Marks.{Mark, Begins, Writes}
use Rattle.cluster_rules.specs.Opening.{Header, header_lines, declared_factor, declared_policy}
use Rattle.journal_readings.specs.Shape.{AreBehind}
use Rattle.cluster_rules.specs.Steps.{Step, marks_of, all_marks, all_lines}
use Rattle.cluster_rules.specs.World.{World}
use Rattle.cluster_rules.proofs.MarkLaws.{lines_of_steps}
use Rattle.cluster_laws.specs.Journals.{IsJournal}
use Rattle.cluster_laws.proofs.At.{no_some}
use Rattle.key_laws.specs.Licences.{LicensedMarks}
use Rattle.run_laws.specs.Fronts.{Front, world_of, front_after, front_after_all}
use Rattle.run_laws.specs.LineDue.{DueMarks, LawfulFront}
use Rattle.run_laws.specs.Premises.{StepPremises, Premises}
use Rattle.run_laws.specs.Ranges.{Ranged}
use Rattle.run_laws.specs.Steps.{Ended, StepGoes}
use Rattle.run_laws.specs.Taken.{IsProperEvent, Taken, first, ground_of}
use Rattle.run_laws.proofs.AllSteps.{step_of}
use Rattle.run_laws.proofs.Grounded.{onward_all}
use Rattle.run_laws.proofs.Journal.{after_append, world_all, lt_after, step_key, first_lawful, first_ended, lines_of_taken, Walked, taken_walked, Walks, walks, marks_are_a_journal}
use Rattle.run_laws.proofs.Lawful.{Onward, lawful_line, lawful_begun, strengthened}
use Rattle.run_laws.proofs.RangedLines.{ranged_line, ranged_begun}
use Rattle.run_laws.proofs.ReadSteps.{HasLine, sends_read}

-- ---- ranges over marks

ranged_all : (by : Policy) (factor : ℕ) (z : Front) (ms : List Mark) → LicensedMarks z.chronicle.traced ms → DueMarks z ms → (front_after_all z ms).lines < 2 ^ 32 → LawfulFront by factor z → Ranged z → Ranged (front_after_all z ms)
ranged_all by factor z [] key due lt h r = r
ranged_all by factor z (Begins e ∷ ms) key due lt h r = ranged_all by factor (front_after z (Begins e)) ms key.1 due lt (lawful_begun by factor z e h).lawful (ranged_begun z e r)
ranged_all by factor z (Writes l ∷ ms) key due lt h r =
    ranged_all by factor (front_after z (Writes l)) ms key.1 due.1 lt (lawful_line by factor z l key.0 (strengthened by factor z l h key.0 due.0) h).lawful
    (ranged_line z l h.sound (strengthened by factor z l h key.0 due.0) (lt_after (front_after z (Writes l)) ms lt) r)

-- ---- steps

-- a step that writes a line leaves room for one more
few_lines : (z : Front) (s : Step) → IsAllowed partition_count (world_of z) s → (front_after_all z (marks_of s)).lines < 2 ^ 32 → HasLine (due_of partition_count (world_of z) s.event) → z.lines + 1 < 2 ^ 32
few_lines z s a lt some = go s.lines (subst HasLine (sym a.due) some) lt
  where
    go : (ls : List Line) → HasLine ls → (front_after_all z (Begins s.event ∷ map Writes ls)).lines < 2 ^ 32 → z.lines + 1 < 2 ^ 32
    go [] h lt = absurd h
    go (l ∷ ls) h lt = lt_after (front_after (front_after z (Begins s.event)) (Writes l))
        (map Writes ls) lt

premises_hold : (by : Policy) (factor : ℕ) (z : Front) (ss : List Step) → LawfulFront by factor z → Ended z → Ranged z → AllByRecursion (λ (s : Step). IsProperEvent s.event) ss → AreAllowed partition_count (world_of z) ss → (front_after_all z (all_marks ss)).lines < 2 ^ 32 → Premises z ss
premises_hold by factor z [] h e r p a short = tt
premises_hold by factor z (s ∷ ss) h e r p a short =
    let rest : (front_after_all (front_after_all z (marks_of s)) (all_marks ss)).lines < 2 ^ 32 = subst (λ (y : Front). y.lines < 2 ^ 32) (after_append z (marks_of s) (all_marks ss)) short in
    let lt : (front_after_all z (marks_of s)).lines < 2 ^ 32 = lt_after (front_after_all z (marks_of s)) (all_marks ss) rest in
    let one : StepPremises z s = record { reads = sends_read by factor z s.event h e r p.0 (few_lines z s a.0 lt) } in
    let goes : StepGoes z s = step_of by factor z s h e p.0 a.0 lt one in
    let key : LicensedMarks z.chronicle.traced (marks_of s) = step_key z s by factor h p.0 a.0 in
    let on : Onward by factor z (front_after_all z (marks_of s)) = onward_all by factor z (marks_of s) key goes.due h in
    (one, premises_hold by factor (front_after_all z (marks_of s)) ss on.lawful goes.ends (ranged_all by factor z (marks_of s) key goes.due lt h r) p.1 (subst (λ (w : World). AreAllowed partition_count w ss) (sym (world_all z (marks_of s))) a.1) rest)

-- ---- from the beginning

first_ranged : (h : Header) → Ranged (first h)
first_ranged h = record {
  nodes = λ n. record {
    each_row = tt;
    content = record { each = λ d v e. no_some (sym (get-empty (slice_cmp nat_cmp) d) ∙ e) };
    stamps = record { each = λ p s e. no_some (sym (get-empty nat_cmp p) ∙ e) };
    writes = record { applies = λ p. omega arith; numbers = λ p. omega arith };
    transactions = record { opened = omega arith; running = λ y a. absurd a };
    each_target = λ t a. absurd a;
  };
  clocks = λ n. lit< tt;
}

pub premises_of : (h : Header) (ss : List Step) → Taken h ss → Premises (first h) ss
premises_of h ss t = premises_hold (declared_policy h) (declared_factor h) (first h) ss (first_lawful h) (first_ended h) (first_ranged h) (recursion_from_All (λ (s : Step). IsProperEvent s.event) ss t.ranges) t.allowed
    (subst (λ (n : ℕ). n < 2 ^ 32) (sym (lines_of_taken h ss)) t.short)

-- where the steps lead
pub taken_leads : (h : Header) (ss : List Step) → Taken h ss → Walked (declared_policy h) (declared_factor h) (first h) (all_marks ss)
taken_leads h ss t = taken_walked h ss t (premises_of h ss t)

-- what nodes keep behind the steps has its ranges
pub taken_ranged : (h : Header) (ss : List Step) → Taken h ss → Ranged (front_after_all (first h) (all_marks ss))
taken_ranged h ss t = let w : Walked (declared_policy h) (declared_factor h) (first h) (all_marks ss) = taken_leads h ss t in
    ranged_all (declared_policy h) (declared_factor h) (first h) (all_marks ss) w.key w.due (subst (λ (n : ℕ). n < 2 ^ 32) (sym (lines_of_taken h ss)) t.short) (first_lawful h) (first_ranged h)

pub taken_walks : (h : Header) (ss : List Step) → Taken h ss → Walks h ss
taken_walks h ss t = walks h ss t (premises_of h ss t)

-- no line of the steps is one of a header
pub taken_behind : (h : Header) (ss : List Step) → Taken h ss → AreBehind (all_lines ss)
taken_behind h ss t = subst AreBehind (lines_of_steps ss) (taken_walks h ss t).behind

pub taken_is_a_journal : (h : Header) (ss : List Step) → Taken h ss → IsJournal (header_lines h) (ground_of h ss) (all_lines ss)
taken_is_a_journal h ss t = subst (λ (ls : List Line). IsJournal (header_lines h) (ground_of h ss) ls) (lines_of_steps ss) (marks_are_a_journal h ss t.header (taken_walks h ss t))
