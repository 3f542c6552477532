-- Steps that change one node at most: lines one after another, and what stays elsewhere.
use Rattle.std.proofs.Common.{◌≡◌, ℕ, ◌==◌, Bool, true, false, List, [], ◌∷◌, ◌++◌, map, None, refl, sym, ap, ◌∙◌, subst}
use Rattle.cluster_types.specs.Partitions.{partition_count}
use Rattle.journal_lines.specs.declared.line.Line.{Line}
use Rattle.node_rules.specs.Facts.{Facts}
use Rattle.cluster_rules.specs.declared.event.Event.{Event}
use Rattle.cluster_rules.specs.Allowed.{IsAllowed}
use Rattle.cluster_rules.specs.DueEvents.{due_of}
use Rattle.cluster_rules.specs.Marks.{Mark, Begins, Writes}
use Rattle.cluster_rules.specs.Steps.{Step, marks_of}
use Rattle.cluster_rules.specs.World.{changed_at, new_if}
use Rattle.cluster_laws.proofs.At.{number_same, number_here, differ}
use Rattle.run_laws.specs.Fronts.{Front, world_of, facts_at, front_after, front_after_all}
use Rattle.run_laws.specs.LineDue.{AllDue, DueMarks}
use Rattle.run_laws.specs.Steps.{Rests, Ended, StepGoes}

-- ---- lines one after another

abbrev pub after_lines : Front → List Line → Front
after_lines z ls = front_after_all z (map Writes ls)

pub lines_append : (z : Front) (a b : List Line) → after_lines z (a ++ b) ≡ after_lines (after_lines z a) b
lines_append z [] b = refl
lines_append z (l ∷ a) b = lines_append (front_after z (Writes l)) a b

pub all_append : (z : Front) (a b : List Line) → AllDue z a → AllDue (after_lines z a) b → AllDue z (a ++ b)
all_append z [] b x y = y
all_append z (l ∷ a) b x y = (x.0, all_append (front_after z (Writes l)) a b x.1 y)

pub due_marks : (z : Front) (ls : List Line) → AllDue z ls → DueMarks z (map Writes ls)
due_marks z [] d = tt
due_marks z (l ∷ ls) d = (d.0, due_marks (front_after z (Writes l)) ls d.1)

-- lines that are due, after which the front is as between steps
pub record LinesGo (z : Front) (ls : List Line) : Type 0 where
  pub due : AllDue z ls
  pub ends : Ended (after_lines z ls)

-- marks that go, as a step's marks do
record MarksGo (z : Front) (ms : List Mark) : Type 0 where
  due : DueMarks z ms
  ends : Ended (front_after_all z ms)

pub step_goes : (z : Front) (s : Step) (e : Event) → s.event ≡ e → IsAllowed partition_count (world_of z) s → LinesGo (front_after z (Begins e)) (due_of partition_count (world_of z) e) → StepGoes z s
step_goes z s e same a g = let m : MarksGo z (marks_of s) = subst (λ (ms : List Mark). MarksGo z ms) (sym marks) (record { due = due_marks (front_after z (Begins e)) (due_of partition_count (world_of z) e) g.due; ends = g.ends }) in record { due = m.due; ends = m.ends }
  where
    marks : marks_of s ≡ Begins e ∷ map Writes (due_of partition_count (world_of z) e)
    marks = ap (λ (x : Event). Begins x ∷ map Writes s.lines) same ∙ ap (λ (ls : List Line). Begins e ∷ map Writes ls) (a.due ∙ ap (due_of partition_count (world_of z)) same)

-- ---- what stays elsewhere

pub record Elsewhere (n : ℕ) (z y : Front) : Type 0 where
  pub facts : (m : ℕ) → (n == m) ≡ false → facts_at y m ≡ facts_at z m
  pub closing : (m : ℕ) → (n == m) ≡ false → y.closing m ≡ z.closing m

pub nothing_moves : (n : ℕ) (z : Front) → Elsewhere n z z
nothing_moves n z = record { facts = λ m e. refl; closing = λ m e. refl }

pub elsewhere_on : (n : ℕ) (x y z : Front) → Elsewhere n x y → Elsewhere n y z → Elsewhere n x z
elsewhere_on n x y z a b = record { facts = λ m e. b.facts m e ∙ a.facts m e; closing = λ m e. b.closing m e ∙ a.closing m e }

-- the node itself is as between steps
pub ended_but : (n : ℕ) (z y : Front) → Elsewhere n z y → Ended z → y.owed ≡ None → y.closing n ≡ false → Rests (facts_at y n) → Ended y
ended_but n z y s e o c r = record {
  owes = o;
  stays = λ m. closes m (n == m) refl;
  rests = λ m. rests m (n == m) refl;
}
  where
    closes : (m : ℕ) (b : Bool) → (n == m) ≡ b → y.closing m ≡ false
    closes m true i = ap y.closing (sym (number_same n m i)) ∙ c
    closes m false i = s.closing m i ∙ e.stays m

    rests : (m : ℕ) (b : Bool) → (n == m) ≡ b → Rests (facts_at y m)
    rests m true i = subst (λ (j : ℕ). Rests (facts_at y j)) (number_same n m i) r
    rests m false i = subst (λ (f : Facts). Rests f) (sym (s.facts m i)) (e.rests m)

-- a value at its place
pub here : {A : Type 0} (f : ℕ → A) (n : ℕ) (new : A) → changed_at f n new n ≡ new
here {A} f n new = go (n == n) (number_here n)
  where
    go : (b : Bool) → b ≡ true → new_if new f n b ≡ new
    go true e = refl
    go false e = differ e refl

pub away : {A : Type 0} (f : ℕ → A) (n : ℕ) (new : A) (m : ℕ) → (n == m) ≡ false → changed_at f n new m ≡ f m
away {A} f n new m e = ap (new_if new f m) e
