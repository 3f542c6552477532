-- Runs with more steps, and what is still to come of steps that are underway.
use Rattle.std.proofs.Common.{◌≡◌, List, [], ◌∷◌, ◌++◌, refl, sym, ap, subst, ◌∙◌, append_assoc}
use Rattle.std.proofs.lemmas.List.{append-nil}
use Rattle.std.proofs.lemmas.Grind.{flat_map-append}
use Rattle.cluster_types.specs.Partitions.{partition_count}
use Rattle.script_lang.specs.declared.script.Command.{Command}
use Rattle.journal_lines.specs.declared.line.Line.{Line}
use Rattle.journal_text.specs.Journals.{IsWithin}
use Rattle.cluster_rules.specs.declared.event.Event.{Event}
use Rattle.cluster_rules.specs.Allowed.{AreAllowed}
use Rattle.cluster_rules.specs.Begun.{IsBegun, MayPlay}
use Rattle.cluster_rules.specs.DueEvents.{due_of}
use Rattle.cluster_rules.specs.Marks.{after_all}
use Rattle.cluster_rules.specs.Opening.{header_lines}
use Rattle.cluster_rules.specs.Steps.{Step, marks_of, all_marks, all_lines, Played, then_played, play, play_all}
use Rattle.cluster_rules.specs.World.{World, opened}
use Rattle.cluster_rules.proofs.MarkLaws.{Follows, after_all-append, one}
use Rattle.world.specs.Steps.{RunSoFar, MayCome, standing, run_lines, next_lines, stepped}
use Rattle.calm_run.specs.Playing.{followed, StandsIn, StopsIn}

-- ---- more steps

pub followed_none : (r : RunSoFar) → r ≡ followed r []
followed_none r = ap (λ (ss : List Step). record r { steps = ss }) (sym (append-nil r.steps))

pub followed_twice : (r : RunSoFar) (ss ts : List Step) → followed (followed r ss) ts ≡ followed r (ss ++ ts)
followed_twice r ss ts = ap (λ (us : List Step). record r { steps = us }) (append_assoc r.steps ss ts)

-- the world after them
pub standing_followed : (r : RunSoFar) (ss : List Step) → standing (followed r ss) ≡ after_all (standing r) (all_marks ss)
unfolding standing
standing_followed r ss = ap (λ ms. after_all (opened r.header) ms) (flat_map-append marks_of r.steps ss) ∙ after_all-append (opened r.header) (all_marks r.steps) (all_marks ss)

-- and the lines with theirs
pub written_followed : (r : RunSoFar) (ss : List Step) → run_lines (followed r ss) ≡ run_lines r ++ all_lines ss
unfolding run_lines
written_followed r ss =
    ap (λ (ls : List Line). header_lines r.header ++ ls) (flat_map-append (λ (s : Step). s.lines) r.steps ss)
    ∙ sym (append_assoc (header_lines r.header) (all_lines r.steps) (all_lines ss))

-- the world after steps that were played
pub standing_played : (old new : RunSoFar) (x : Played) → Follows partition_count (standing old) x → new ≡ followed old x.steps → standing new ≡ x.world
standing_played old new x h e = ap standing e ∙ standing_followed old x.steps ∙ h.leads

-- the step of an event
unfoldable pub step_of : RunSoFar → Event → Step
step_of r e = record { event = e; lines = due_of partition_count (standing r) e }

pub stepped_followed : (r : RunSoFar) (e : Event) → stepped r e ≡ followed r (step_of r e ∷ [])
unfolding stepped next_lines step_of
stepped_followed r e = refl

pub standing_stepped : (r : RunSoFar) (e : Event) → standing (stepped r e) ≡ (play partition_count e (standing r)).world
unfolding step_of
standing_stepped r e = standing_played r (stepped r e) (play partition_count e (standing r)) (one partition_count e (standing r)) (stepped_followed r e)

-- ---- steps that are underway

-- of all these steps some were taken between the two runs, and these are to come
pub record AreUnderway (old now : RunSoFar) (all rest : List Step) : Type 0 where
  pub taken : List Step
  pub steps : now ≡ followed old taken
  pub parts : all ≡ taken ++ rest

pub not_begun : (old : RunSoFar) (all : List Step) → AreUnderway old old all all
not_begun old all = record { taken = []; steps = followed_none old; parts = refl }

-- more of them are taken
pub more_taken : (old now next : RunSoFar) (all before after ss : List Step) → AreUnderway old now all before → before ≡ ss ++ after → next ≡ followed now ss → AreUnderway old next all after
more_taken old now next all before after ss u b e = record {
  taken = u.taken ++ ss;
  steps = e ∙ ap (λ (r : RunSoFar). followed r ss) u.steps ∙ followed_twice old u.taken ss;
  parts = u.parts ∙ ap (λ (ts : List Step). u.taken ++ ts) b ∙ sym (append_assoc u.taken ss after);
}

-- none is to come
pub all_taken : (old now : RunSoFar) (all : List Step) → AreUnderway old now all [] → now ≡ followed old all
all_taken old now all u = u.steps ∙ ap (λ (ss : List Step). followed old ss) (sym (u.parts ∙ append-nil u.taken))

-- the same steps to come, in other words
pub underway_as : (old now : RunSoFar) (all rest same : List Step) → rest ≡ same → AreUnderway old now all rest → AreUnderway old now all same
underway_as old now all rest same e u = record { taken = u.taken; steps = u.steps; parts = u.parts ∙ ap (λ (ts : List Step). u.taken ++ ts) e }

-- ---- a command that stops

-- where the lines of a step to come don't fit, the command stops
pub stops_underway : (old now new : RunSoFar) (c : Command) (whole : Played) (rest taken : List Step) (next : Step) (others : List Step)
    → MayPlay partition_count (standing old) c whole → AreUnderway old now whole.steps rest → rest ≡ taken ++ next ∷ others
    → new ≡ followed now taken → ¬ IsWithin (run_lines new ++ next.lines) → StopsIn old new c
stops_underway old now new c whole rest taken next others plays u parts steps passes =
    let later : AreUnderway old new whole.steps (next ∷ others) = more_taken old now new whole.steps rest (next ∷ others) taken u parts steps in record {
      taken = later.taken;
      next = next;
      begun = record { whole = whole; plays = plays; front = record { others = others; in_order = later.parts } };
      steps = later.steps;
      passes = passes;
    }

-- some first steps were taken, and another comes next
pub record BreaksOff (old new : RunSoFar) (c : Command) : Type 0 where
  pub taken : List Step
  pub next : Step
  pub begun : IsBegun partition_count (standing old) c taken next
  pub steps : new ≡ followed old taken

no_step : (s : Step) (ss : List Step) → s ∷ ss ≡ [] → ⊥
no_step s ss e = cc

pub breaks_stands : (old new : RunSoFar) (c : Command) → BreaksOff old new c → StandsIn old new c
breaks_stands old new c h = record {
  taken = h.taken;
  front = record { whole = h.begun.whole; plays = h.begun.plays; others = h.next ∷ h.begun.front.others; front = h.begun.front.in_order };
  steps = h.steps;
  idle = λ none. absurd (no_step h.next h.begun.front.others none);
}

-- where it isn't taken, the command breaks off before it
pub breaks_underway : (old now new : RunSoFar) (c : Command) (whole : Played) (rest taken : List Step) (next : Step) (others : List Step)
    → MayPlay partition_count (standing old) c whole → AreUnderway old now whole.steps rest → rest ≡ taken ++ next ∷ others
    → new ≡ followed now taken → BreaksOff old new c
breaks_underway old now new c whole rest taken next others plays u parts steps =
    let later : AreUnderway old new whole.steps (next ∷ others) = more_taken old now new whole.steps rest (next ∷ others) taken u parts steps in record {
      taken = later.taken;
      next = next;
      begun = record { whole = whole; plays = plays; front = record { others = others; in_order = later.parts } };
      steps = later.steps;
    }

-- a part of it stops
pub part_stops : (old now new : RunSoFar) (c d : Command) (whole : Played) (rest others : List Step)
    → MayPlay partition_count (standing old) c whole → AreUnderway old now whole.steps rest → (h : StopsIn now new d) → rest ≡ h.begun.whole.steps ++ others
    → StopsIn old new c
part_stops old now new c d whole rest others plays u h part =
    stops_underway old now new c whole rest h.taken h.next (h.begun.front.others ++ others) plays u
    (part ∙ ap (λ (ss : List Step). ss ++ others) h.begun.front.in_order ∙ append_assoc h.taken (h.next ∷ h.begun.front.others) others)
    h.steps
    h.passes

first_none : (ss ts : List Step) → ss ++ ts ≡ [] → ss ≡ []
first_none [] ts e = refl
first_none (s ∷ ss) ts e = absurd (no_step s (ss ++ ts) e)

-- a front of a part of it stands
pub part_stands : (old now new : RunSoFar) (c d : Command) (whole : Played) (rest others : List Step)
    → MayPlay partition_count (standing old) c whole → AreUnderway old now whole.steps rest → (h : StandsIn now new d) → rest ≡ h.front.whole.steps ++ others
    → StandsIn old new c
part_stands old now new c d whole rest others plays u h part =
    let later : AreUnderway old new whole.steps (h.front.others ++ others) =
    more_taken old now new whole.steps rest (h.front.others ++ others) h.taken u
    (part ∙ ap (λ (ss : List Step). ss ++ others) h.front.front ∙ append_assoc h.taken h.front.others others)
    h.steps in record {
      taken = later.taken;
      front = record { whole = whole; plays = plays; others = h.front.others ++ others; front = later.parts };
      steps = later.steps;
      idle = λ none. h.idle (first_none h.front.others others none);
    }

-- ---- events in a row

-- the steps of these events, and then of what is played behind them
unfoldable pub events_then : List Event → (World → Played) → World → List Step
events_then es tail w = (then_played (play_all partition_count es w) tail).steps

pub event_first : (e : Event) (es : List Event) (tail : World → Played) (r : RunSoFar)
    → events_then (e ∷ es) tail (standing r) ≡ step_of r e ∷ events_then es tail (standing (stepped r e))
unfolding events_then step_of
event_first e es tail r = ap (λ (v : World). step_of r e ∷ events_then es tail v) (sym (standing_stepped r e))

-- the first of them is taken
pub event_taken : (old now next : RunSoFar) (all : List Step) (e : Event) (es : List Event) (tail : World → Played)
    → AreUnderway old now all (events_then (e ∷ es) tail (standing now)) → next ≡ stepped now e → AreUnderway old next all (events_then es tail (standing next))
event_taken old now next all e es tail u h =
    more_taken old now next all (events_then (e ∷ es) tail (standing now)) (events_then es tail (standing next)) (step_of now e ∷ []) u
    (event_first e es tail now ∙ ap (λ (r : RunSoFar). step_of now e ∷ events_then es tail (standing r)) (sym h))
    (h ∙ stepped_followed now e)

-- its lines don't fit
pub event_stops : (old now new : RunSoFar) (c : Command) (whole : Played) (e : Event) (es : List Event) (tail : World → Played)
    → MayPlay partition_count (standing old) c whole → AreUnderway old now whole.steps (events_then (e ∷ es) tail (standing now))
    → new ≡ now → ¬ IsWithin (run_lines now ++ next_lines now e) → StopsIn old new c
unfolding step_of next_lines
event_stops old now new c whole e es tail plays u same passes =
    stops_underway old now new c whole (events_then (e ∷ es) tail (standing now)) [] (step_of now e) (events_then es tail (standing (stepped now e))) plays u
    (event_first e es tail now)
    (same ∙ followed_none now)
    (subst (λ (r : RunSoFar). ¬ IsWithin (run_lines r ++ next_lines now e)) (sym same) passes)

-- it isn't taken
pub event_breaks : (old now new : RunSoFar) (c : Command) (whole : Played) (e : Event) (es : List Event) (tail : World → Played)
    → MayPlay partition_count (standing old) c whole → AreUnderway old now whole.steps (events_then (e ∷ es) tail (standing now)) → new ≡ now → BreaksOff old new c
event_breaks old now new c whole e es tail plays u same =
    breaks_underway old now new c whole (events_then (e ∷ es) tail (standing now)) [] (step_of now e) (events_then es tail (standing (stepped now e))) plays u
    (event_first e es tail now)
    (same ∙ followed_none now)

-- a step to come may come, where all are allowed
next_allowed : (w : World) (taken : List Step) (next : Step) (others : List Step) → AreAllowed partition_count w (taken ++ next ∷ others)
    → AreAllowed partition_count (after_all w (all_marks taken)) (next ∷ others)
next_allowed w [] next others h = h
next_allowed w (s ∷ taken) next others h =
    subst (λ (v : World). AreAllowed partition_count v (next ∷ others)) (sym (after_all-append w (marks_of s) (all_marks taken)))
    (next_allowed (after_all w (marks_of s)) taken next others h.1)

pub event_comes : (old now : RunSoFar) (all : List Step) (e : Event) (es : List Event) (tail : World → Played) → AreAllowed partition_count (standing old) all
    → AreUnderway old now all (events_then (e ∷ es) tail (standing now)) → MayCome now e
unfolding step_of
event_comes old now all e es tail allowed u =
    let whole : all ≡ u.taken ++ step_of now e ∷ events_then es tail (standing (stepped now e)) = u.parts ∙ ap (λ (ss : List Step). u.taken ++ ss) (event_first e es tail now) in
    let here : after_all (standing old) (all_marks u.taken) ≡ standing now = sym (ap standing u.steps ∙ standing_followed old u.taken) in
    let next : AreAllowed partition_count (after_all (standing old) (all_marks u.taken)) (step_of now e ∷ events_then es tail (standing (stepped now e))) =
    next_allowed (standing old) u.taken (step_of now e) (events_then es tail (standing (stepped now e))) (subst (λ (ss : List Step). AreAllowed partition_count (standing old) ss) whole allowed) in
    (subst (λ (v : World). AreAllowed partition_count v (step_of now e ∷ events_then es tail (standing (stepped now e)))) here next).0.comes
