-- One more step of a run.
use Rattle.std.proofs.Common.{◌≡◌, ℕ, ◌+◌, ◌^◌, ◌≤◌, ◌<◌, List, [], ◌∷◌, ◌++◌, length, refl, sym, ap, ap₂, subst, ◌∙◌, append_assoc, length-append, arith, IsTrue, All}
use Rattle.std.proofs.lemmas.List.{append-nil}
use Rattle.std.proofs.lemmas.List.Elements.{All-append, All-cons, All-nil}
use Rattle.std.proofs.lemmas.Grind.{flat_map-append}
use Rattle.cluster_types.specs.Partitions.{partition_count}
use Rattle.journal_lines.specs.declared.line.Line.{Line}
use Rattle.journal_text.specs.Journals.{IsWithin}
use Rattle.cluster_rules.specs.declared.event.Event.{Event}
use Rattle.cluster_rules.specs.Allowed.{AreAllowed, may_come}
use Rattle.cluster_rules.specs.DueEvents.{due, due_of}
use Rattle.cluster_rules.specs.Marks.{Mark, after, after_all}
use Rattle.cluster_rules.specs.NodeSteps.{due_step, after_step}
use Rattle.cluster_rules.specs.Opening.{Header, header_lines}
use Rattle.cluster_rules.specs.Steps.{Step, marks_of, all_lines, all_marks, play_all, play}
use Rattle.cluster_rules.specs.World.{World, opened}
use Rattle.run_laws.specs.Taken.{Taken, IsProperEvent}
use Rattle.world.specs.Fits.{FitsRun}
use Rattle.world.specs.Steps.{RunSoFar, MayCome, standing, run_lines, next_lines, stepped, run_of_events}

after_all-append : (w : World) (ms ns : List Mark) → after_all w (ms ++ ns) ≡ after_all (after_all w ms) ns
after_all-append w [] ns = refl
after_all-append w (m ∷ ms) ns = after_all-append (after w m) ms ns

-- the steps that are played lead to the world that is played
leads : (n : ℕ) (es : List Event) (w : World) → after_all w (all_marks (play_all n es w).steps) ≡ (play_all n es w).world
leads n [] w = refl
leads n (e ∷ es) w =
    after_all-append w (marks_of (record { event = e; lines = due_of n w e })) (all_marks (play_all n es (play n e w).world).steps)
    ∙ leads n es (play n e w).world

steps_more : (n : ℕ) (es : List Event) (e : Event) (w : World)
    → (play_all n (es ++ e ∷ []) w).steps ≡ (play_all n es w).steps ++ record { event = e; lines = due_of n (play_all n es w).world e } ∷ []
steps_more n [] e w = refl
steps_more n (x ∷ es) e w = ap (λ ss. record { event = x; lines = due_of n w x } ∷ ss) (steps_more n es e (play n x w).world)

-- an event more is a step more
pub run_more : (h : Header) (es : List Event) (e : Event) → run_of_events h (es ++ e ∷ []) ≡ stepped (run_of_events h es) e
unfolding run_of_events stepped next_lines standing
run_more h es e =
    ap (λ ss. record { header = h; steps = ss })
    (steps_more partition_count es e (opened h)
    ∙ ap (λ w. (play_all partition_count es (opened h)).steps ++ record { event = e; lines = due w e } ∷ []) (sym (leads partition_count es (opened h))))

pub standing_more : (r : RunSoFar) (e : Event) → standing (stepped r e) ≡ after_step (standing r) e
unfolding standing stepped next_lines
standing_more r e =
    let step : Step = due_step (standing r) e in
    ap (λ ms. after_all (opened r.header) ms) (flat_map-append marks_of r.steps (step ∷ []))
    ∙ after_all-append (opened r.header) (all_marks r.steps) (marks_of step ++ [])
    ∙ ap (λ ms. after_all (standing r) ms) (append-nil (marks_of step))

pub written_more : (r : RunSoFar) (e : Event)
    → run_lines (stepped r e) ≡ run_lines r ++ next_lines r e
unfolding run_lines stepped
written_more r e =
    ap (λ ls. header_lines r.header ++ ls) (flat_map-append (λ (s : Step). s.lines) r.steps (record { event = e; lines = next_lines r e } ∷ []) ∙ ap (λ ls. all_lines r.steps ++ ls) (append-nil (next_lines r e)))
    ∙ sym (append_assoc (header_lines r.header) (all_lines r.steps) (next_lines r e))

allowed_from : (w : World) (ss : List Step) (s : Step) → AreAllowed partition_count w ss → IsTrue (may_come partition_count (after_all w (all_marks ss)) s.event) → s.lines ≡ due (after_all w (all_marks ss)) s.event
    → AreAllowed partition_count w (ss ++ s ∷ [])
allowed_from w [] s h c d = (record { comes = c; due = d }, tt)
allowed_from w (x ∷ ss) s h c d =
    let same = after_all-append w (marks_of x) (all_marks ss) in
    (h.0, allowed_from (after_all w (marks_of x)) ss s h.1 (subst (λ (v : World). IsTrue (may_come partition_count v s.event)) same c) (subst (λ (v : World). s.lines ≡ due v s.event) same d))

allowed_more : (r : RunSoFar) (e : Event) → AreAllowed partition_count (opened r.header) r.steps → MayCome r e → AreAllowed partition_count (opened r.header) (stepped r e).steps
unfolding standing stepped next_lines
allowed_more r e h c = allowed_from (opened r.header) r.steps (record { event = e; lines = due (standing r) e }) h c refl

ranges_from : (ss : List Step) (s : Step) → All (λ (x : Step). IsProperEvent x.event) ss → IsProperEvent s.event → All (λ (x : Step). IsProperEvent x.event) (ss ++ s ∷ [])
ranges_from ss s h p = All-append (λ (x : Step). IsProperEvent x.event) ss (s ∷ []) h (All-cons (λ (x : Step). IsProperEvent x.event) s [] p (All-nil (λ (x : Step). IsProperEvent x.event)))

ranges_more : (r : RunSoFar) (e : Event) → All (λ (x : Step). IsProperEvent x.event) r.steps → IsProperEvent e → All (λ (x : Step). IsProperEvent x.event) (stepped r e).steps
unfolding stepped
ranges_more r e h p = ranges_from r.steps (record { event = e; lines = next_lines r e }) h p

short_more : (r : RunSoFar) (ls : List Line) → ls ≡ run_lines r → IsWithin ls → length (all_lines r.steps) < 2 ^ 32
unfolding run_lines
short_more r ls is within =
    let count : length ls ≡ length (header_lines r.header) + length (all_lines r.steps) = ap length is ∙ length-append (header_lines r.header) (all_lines r.steps) in
    omega (arith, within.lines_fit, count)

-- the steps with one more are taken
taken_more : (r : RunSoFar) (e : Event) (ls : List Line) → Taken r.header r.steps → MayCome r e → IsProperEvent e → ls ≡ run_lines (stepped r e) → IsWithin ls → Taken (stepped r e).header (stepped r e).steps
unfolding stepped
taken_more r e ls h c p is within = record {
  header = h.header;
  declared = h.declared;
  allowed = allowed_more r e h.allowed c;
  ranges = ranges_more r e h.ranges p;
  short = short_more (stepped r e) ls is within;
}

-- what fits, fits after one more step
pub fits_more : (h : Header) (es es' : List Event) (e : Event) (sent sent' : ℕ) (ls ls' ms : List Line)
    → FitsRun (run_of_events h es) sent ls → es' ≡ es ++ e ∷ [] → ls' ≡ ls ++ ms → ms ≡ next_lines (run_of_events h es) e
    → MayCome (run_of_events h es) e → IsProperEvent e → IsWithin ls' → sent' ≤ sent + length ms
    → FitsRun (run_of_events h es') sent' ls'
unfolding stepped run_of_events
fits_more h es es' e sent sent' ls ls' ms fits kept wrote made comes proper within few =
    let r : RunSoFar = run_of_events h es in
    let goes : run_of_events h es' ≡ stepped r e = ap (run_of_events h) kept ∙ run_more h es e in
    let is : ls' ≡ run_lines (stepped r e) = wrote ∙ ap₂ (λ a b. a ++ b) fits.journal made ∙ sym (written_more r e) in
    subst (λ (x : RunSoFar). FitsRun x sent' ls') (sym goes) (record {
      journal = is;
      within = within;
      taken = taken_more r e ls' fits.taken comes proper is within;
      sent = let more : length ls' ≡ length ls + length ms = ap length wrote ∙ length-append ls ms in omega (arith, few, fits.sent, more);
    })

-- the run after it, as a caller sees it
pub run_after : (now : RunSoFar) (h : Header) (es es' : List Event) (e : Event) → now ≡ run_of_events h es → es' ≡ es ++ e ∷ [] → run_of_events h es' ≡ stepped now e
run_after now h es es' e seen kept = ap (run_of_events h) kept ∙ run_more h es e ∙ ap (λ (r : RunSoFar). stepped r e) (sym seen)

-- the world after it
pub standing_after : (h : Header) (es es' : List Event) (e : Event) → es' ≡ es ++ e ∷ [] → standing (run_of_events h es') ≡ after_step (standing (run_of_events h es)) e
standing_after h es es' e kept = ap (λ (xs : List Event). standing (run_of_events h xs)) kept ∙ ap standing (run_more h es e) ∙ standing_more (run_of_events h es) e

-- what the journal has now, with the lines due, is what it would have
pub would_have : (now : RunSoFar) (h : Header) (es : List Event) (e : Event) (sent : ℕ) (ls ms : List Line)
    → now ≡ run_of_events h es → FitsRun (run_of_events h es) sent ls → ms ≡ next_lines (run_of_events h es) e → ls ++ ms ≡ run_lines now ++ next_lines now e
would_have now h es e sent ls ms seen fits made = ap₂ (λ a b. a ++ b) fits.journal made ∙ ap (λ (r : RunSoFar). run_lines r ++ next_lines r e) (sym seen)

-- nothing but room has changed
pub fits_same : (h : Header) (es es' : List Event) (sent sent' : ℕ) (ls ls' : List Line) → FitsRun (run_of_events h es) sent ls → es' ≡ es → sent' ≡ sent → ls' ≡ ls → FitsRun (run_of_events h es') sent' ls'
fits_same h es es' sent sent' ls ls' fits kept same wrote =
    subst (λ (xs : List Event). FitsRun (run_of_events h xs) sent' ls') (sym kept)
    (subst (λ (s : ℕ). FitsRun (run_of_events h es) s ls') (sym same) (subst (λ (xs : List Line). FitsRun (run_of_events h es) sent xs) (sym wrote) fits))
