-- Rounds one after another, and the parts of a round that is underway.
use Rattle.std.proofs.Common.{◌≡◌, ℕ, zero, suc, ◌+◌, ◌-◌, ◌<◌, ◌≤◌, ◌⊎◌, inl, inr, true, false, List, [], ◌∷◌, ◌++◌, map, drop, get_or, length, refl, sym, ap, subst, ◌∙◌, append_assoc, arith, add-one, drop-cons}
use Rattle.std.proofs.lemmas.List.{append-nil, drop_all}
use Rattle.std.proofs.lemmas.Bool.{cases_lt}
use Rattle.cluster_types.specs.Partitions.{partition_count}
use Rattle.script_lang.specs.declared.script.Command.TheVariants as command
use Rattle.journal_text.specs.Journals.{IsWithin}
use Rattle.cluster_rules.specs.declared.event.Event.{Event}
use Rattle.cluster_rules.specs.declared.event.Event.TheVariants as event
use Rattle.cluster_rules.specs.Begun.{AreBegun}
use Rattle.cluster_rules.specs.Calm.{is_calm_of}
use Rattle.cluster_rules.specs.Runs.{ComesToCalm, calming}
use Rattle.cluster_rules.specs.Steps.{Step, Played, no_steps, then_played, play_all, flow, flows, round, rounds}
use Rattle.cluster_rules.specs.World.{World, up_nodes}
use Rattle.cluster_rules.proofs.AllowedLaws.{command_allowed}
use Rattle.cluster_rules.proofs.MarkLaws.{flow_follows, rounds_follow}
use Rattle.world.specs.Steps.{RunSoFar, MayCome, standing, run_lines, next_lines, stepped}
use Rattle.calm_run.specs.Playing.{followed, ComesToRest, GivesUp, PlaysOn, StandsIn, StopsIn}
use Rattle.calm_run.proofs.Sequels.{AreUnderway, all_taken, breaks_stands, breaks_underway, events_then, event_breaks, event_comes, event_stops, event_taken, followed_none, more_taken, not_begun, part_stands, part_stops, standing_played, step_of, stepped_followed, stops_underway, underway_as}

-- ---- a flow

-- what is to come of a flow of these numbers behind so many of them
unfoldable pub deliveries_from : List ℕ → ℕ → World → List Step
deliveries_from ids place w = events_then (map event.Deliver (drop place ids)) no_steps w

-- the events of the numbers from a place on begin with that of the number there
from_place : (event_of : ℕ → Event) (ids : List ℕ) (place n d : ℕ) → place < length ids → n ≡ get_or ids place d → map event_of (drop place ids) ≡ event_of n ∷ map event_of (drop (place + 1) ids)
from_place event_of ids place n d within read =
    ap (map event_of)
    (drop-cons ids place d within
    ∙ ap (λ (m : ℕ). m ∷ drop (suc place) ids) (sym read)
    ∙ ap (λ (k : ℕ). n ∷ drop k ids) (sym (add-one place)))

-- behind the last of them there is none
from_end : (event_of : ℕ → Event) (ids : List ℕ) (place : ℕ) → length ids ≤ place → map event_of (drop place ids) ≡ []
from_end event_of ids place past = ap (map event_of) (drop_all place ids past)

pub flow_begins : (old : RunSoFar) (ids : List ℕ) → ids ≡ (standing old).network.flying → AreUnderway old old (flow partition_count (standing old)).steps (deliveries_from ids 0 (standing old))
unfolding deliveries_from events_then
flow_begins old ids are =
    underway_as old old (flow partition_count (standing old)).steps (flow partition_count (standing old)).steps _
    (sym (append-nil (flow partition_count (standing old)).steps) ∙ ap (λ (ns : List ℕ). (then_played (play_all partition_count (map event.Deliver ns) (standing old)) no_steps).steps) (sym are))
    (not_begun old (flow partition_count (standing old)).steps)

first_delivery : (ids : List ℕ) (place n : ℕ) (w : World) → place < length ids → n ≡ get_or ids place 0 → deliveries_from ids place w ≡ events_then (event.Deliver n ∷ map event.Deliver (drop (place + 1) ids)) no_steps w
unfolding deliveries_from
first_delivery ids place n w within read = ap (λ (es : List Event). events_then es no_steps w) (from_place event.Deliver ids place n 0 within read)

pub delivery_taken : (old now next : RunSoFar) (all : List Step) (ids : List ℕ) (place n : ℕ) → place < length ids → n ≡ get_or ids place 0
    → AreUnderway old now all (deliveries_from ids place (standing now)) → next ≡ stepped now (event.Deliver n) → AreUnderway old next all (deliveries_from ids (place + 1) (standing next))
unfolding deliveries_from
delivery_taken old now next all ids place n within read u h =
    event_taken old now next all (event.Deliver n) (map event.Deliver (drop (place + 1) ids)) no_steps (underway_as old now all _ _ (first_delivery ids place n (standing now) within read) u) h

pub delivery_stops : (old now new : RunSoFar) (ids : List ℕ) (place n : ℕ) → place < length ids → n ≡ get_or ids place 0
    → AreUnderway old now (flow partition_count (standing old)).steps (deliveries_from ids place (standing now)) → new ≡ now
    → ¬ IsWithin (run_lines now ++ next_lines now (event.Deliver n)) → StopsIn old new command.Flow
delivery_stops old now new ids place n within read u same passes =
    event_stops old now new command.Flow (flow partition_count (standing old)) (event.Deliver n) (map event.Deliver (drop (place + 1) ids)) no_steps refl
    (underway_as old now (flow partition_count (standing old)).steps _ _ (first_delivery ids place n (standing now) within read) u)
    same
    passes

pub delivery_stands : (old now new : RunSoFar) (ids : List ℕ) (place n : ℕ) → place < length ids → n ≡ get_or ids place 0
    → AreUnderway old now (flow partition_count (standing old)).steps (deliveries_from ids place (standing now)) → new ≡ now → StandsIn old new command.Flow
delivery_stands old now new ids place n within read u same =
    breaks_stands old new command.Flow
    (event_breaks old now new command.Flow (flow partition_count (standing old)) (event.Deliver n) (map event.Deliver (drop (place + 1) ids)) no_steps refl
    (underway_as old now (flow partition_count (standing old)).steps _ _ (first_delivery ids place n (standing now) within read) u)
    same)

-- a flow without a step is one of no message
no_delivery : (ids : List ℕ) (w : World) → (play_all partition_count (map event.Deliver ids) w).steps ≡ [] → ids ≡ []
no_delivery [] w e = refl
no_delivery (n ∷ ids) w e = absurd (none _ _ e)
  where
    none : (s : Step) (ss : List Step) → s ∷ ss ≡ [] → ⊥
    none s ss h = cc

-- none of its steps is taken
pub flow_not_begun : (old : RunSoFar) → StandsIn old old command.Flow
flow_not_begun old = record {
  taken = [];
  front = record { whole = flow partition_count (standing old); plays = refl; others = (flow partition_count (standing old)).steps; front = refl };
  steps = followed_none old;
  idle = no_delivery (standing old).network.flying (standing old);
}

pub flow_ends : (old new : RunSoFar) (ids : List ℕ) (place : ℕ) → length ids ≤ place → AreUnderway old new (flow partition_count (standing old)).steps (deliveries_from ids place (standing new)) → PlaysOn old new command.Flow
unfolding deliveries_from events_then
flow_ends old new ids place past u = record {
  played = flow partition_count (standing old);
  plays = refl;
  steps = all_taken old new (flow partition_count (standing old)).steps (underway_as old new (flow partition_count (standing old)).steps _ [] none u);
}
  where
    none : events_then (map event.Deliver (drop place ids)) no_steps (standing new) ≡ []
    none = ap (λ (es : List Event). (then_played (play_all partition_count es (standing new)) no_steps).steps) (from_end event.Deliver ids place past)

-- ---- the ticks of a round

-- what is to come of a round of these up nodes behind so many of their ticks
unfoldable pub ticks_from : List ℕ → ℕ → World → List Step
ticks_from ids place w = events_then (map event.Tick (drop place ids)) (flows partition_count 4) w

pub round_begins : (old : RunSoFar) (ids : List ℕ) → ids ≡ up_nodes (standing old) → AreUnderway old old (round partition_count (standing old)).steps (ticks_from ids 0 (standing old))
unfolding ticks_from events_then
round_begins old ids are =
    underway_as old old (round partition_count (standing old)).steps (round partition_count (standing old)).steps _
    (ap (λ (ns : List ℕ). (then_played (play_all partition_count (map event.Tick ns) (standing old)) (flows partition_count 4)).steps) (sym are))
    (not_begun old (round partition_count (standing old)).steps)

first_tick : (ids : List ℕ) (place n : ℕ) (w : World) → place < length ids → n ≡ get_or ids place n → ticks_from ids place w ≡ events_then (event.Tick n ∷ map event.Tick (drop (place + 1) ids)) (flows partition_count 4) w
unfolding ticks_from
first_tick ids place n w within read = ap (λ (es : List Event). events_then es (flows partition_count 4) w) (from_place event.Tick ids place n n within read)

pub tick_comes : (old now : RunSoFar) (ids : List ℕ) (place n : ℕ) → place < length ids → n ≡ get_or ids place n
    → AreUnderway old now (round partition_count (standing old)).steps (ticks_from ids place (standing now)) → MayCome now (event.Tick n)
tick_comes old now ids place n within read u =
    event_comes old now (round partition_count (standing old)).steps (event.Tick n) (map event.Tick (drop (place + 1) ids)) (flows partition_count 4)
    (command_allowed partition_count (standing old) command.Round (round partition_count (standing old)) refl refl)
    (underway_as old now (round partition_count (standing old)).steps _ _ (first_tick ids place n (standing now) within read) u)

pub tick_taken : (old now next : RunSoFar) (all : List Step) (ids : List ℕ) (place n : ℕ) → place < length ids → n ≡ get_or ids place n
    → AreUnderway old now all (ticks_from ids place (standing now)) → next ≡ stepped now (event.Tick n) → AreUnderway old next all (ticks_from ids (place + 1) (standing next))
unfolding ticks_from
tick_taken old now next all ids place n within read u h =
    event_taken old now next all (event.Tick n) (map event.Tick (drop (place + 1) ids)) (flows partition_count 4) (underway_as old now all _ _ (first_tick ids place n (standing now) within read) u) h

pub tick_stops : (old now new : RunSoFar) (ids : List ℕ) (place n : ℕ) → place < length ids → n ≡ get_or ids place n
    → AreUnderway old now (round partition_count (standing old)).steps (ticks_from ids place (standing now)) → new ≡ now
    → ¬ IsWithin (run_lines now ++ next_lines now (event.Tick n)) → StopsIn old new command.Round
tick_stops old now new ids place n within read u same passes =
    event_stops old now new command.Round (round partition_count (standing old)) (event.Tick n) (map event.Tick (drop (place + 1) ids)) (flows partition_count 4) refl
    (underway_as old now (round partition_count (standing old)).steps _ _ (first_tick ids place n (standing now) within read) u)
    same
    passes

pub tick_stands : (old now new : RunSoFar) (ids : List ℕ) (place n : ℕ) → place < length ids → n ≡ get_or ids place n
    → AreUnderway old now (round partition_count (standing old)).steps (ticks_from ids place (standing now)) → new ≡ now → StandsIn old new command.Round
tick_stands old now new ids place n within read u same =
    breaks_stands old new command.Round
    (event_breaks old now new command.Round (round partition_count (standing old)) (event.Tick n) (map event.Tick (drop (place + 1) ids)) (flows partition_count 4) refl
    (underway_as old now (round partition_count (standing old)).steps _ _ (first_tick ids place n (standing now) within read) u)
    same)

-- ---- its flows

-- what is to come of a round behind so many of its four flows
unfoldable pub flows_from : ℕ → World → List Step
flows_from count w = (flows partition_count (4 - count) w).steps

pub ticks_end : (old now : RunSoFar) (all : List Step) (ids : List ℕ) (place : ℕ) → length ids ≤ place → AreUnderway old now all (ticks_from ids place (standing now)) → AreUnderway old now all (flows_from 0 (standing now))
unfolding ticks_from flows_from events_then
ticks_end old now all ids place past u = underway_as old now all _ _ none u
  where
    none : events_then (map event.Tick (drop place ids)) (flows partition_count 4) (standing now) ≡ (flows partition_count 4 (standing now)).steps
    none = ap (λ (es : List Event). (then_played (play_all partition_count es (standing now)) (flows partition_count 4)).steps) (from_end event.Tick ids place past)

-- the flows to come begin with one
flow_first : (count : ℕ) (w : World) → count < 4 → flows_from count w ≡ (flow partition_count w).steps ++ flows_from (count + 1) (flow partition_count w).world
unfolding flows_from
flow_first count w few =
    let fewer : 4 - count ≡ suc (4 - (count + 1)) = omega (arith, few) in
    ap (λ (k : ℕ). (flows partition_count k w).steps) fewer

pub flow_taken : (old now next : RunSoFar) (all : List Step) (count : ℕ) → count < 4 → AreUnderway old now all (flows_from count (standing now)) → PlaysOn now next command.Flow
    → AreUnderway old next all (flows_from (count + 1) (standing next))
flow_taken old now next all count few u h =
    let flowed : next ≡ followed now (flow partition_count (standing now)).steps = h.steps ∙ ap (λ (x : Played). followed now x.steps) h.plays in
    let world : standing next ≡ (flow partition_count (standing now)).world = standing_played now next (flow partition_count (standing now)) (flow_follows partition_count (standing now)) flowed in
    more_taken old now next all (flows_from count (standing now)) (flows_from (count + 1) (standing next)) (flow partition_count (standing now)).steps u
    (flow_first count (standing now) few ∙ ap (λ (v : World). (flow partition_count (standing now)).steps ++ flows_from (count + 1) v) (sym world))
    flowed

pub flow_stops_round : (old now new : RunSoFar) (count : ℕ) → count < 4 → AreUnderway old now (round partition_count (standing old)).steps (flows_from count (standing now))
    → StopsIn now new command.Flow → StopsIn old new command.Round
flow_stops_round old now new count few u h =
    part_stops old now new command.Round command.Flow (round partition_count (standing old)) (flows_from count (standing now)) (flows_from (count + 1) (flow partition_count (standing now)).world) refl u h
    (flow_first count (standing now) few ∙ ap (λ (x : Played). x.steps ++ flows_from (count + 1) (flow partition_count (standing now)).world) (sym h.begun.plays))

pub flow_stands_round : (old now new : RunSoFar) (count : ℕ) → count < 4 → AreUnderway old now (round partition_count (standing old)).steps (flows_from count (standing now))
    → StandsIn now new command.Flow → StandsIn old new command.Round
flow_stands_round old now new count few u h =
    part_stands old now new command.Round command.Flow (round partition_count (standing old)) (flows_from count (standing now)) (flows_from (count + 1) (flow partition_count (standing now)).world) refl u h
    (flow_first count (standing now) few ∙ ap (λ (x : Played). x.steps ++ flows_from (count + 1) (flow partition_count (standing now)).world) (sym h.front.plays))

pub round_ends : (old new : RunSoFar) (count : ℕ) → count ≡ 4 → AreUnderway old new (round partition_count (standing old)).steps (flows_from count (standing new)) → new ≡ followed old (round partition_count (standing old)).steps
unfolding flows_from
round_ends old new count all u = all_taken old new (round partition_count (standing old)).steps (underway_as old new (round partition_count (standing old)).steps _ [] (ap (λ (k : ℕ). (flows partition_count (4 - k) (standing new)).steps) all) u)

pub round_played : (old new : RunSoFar) → new ≡ followed old (round partition_count (standing old)).steps → PlaysOn old new command.Round
round_played old new e = record { played = round partition_count (standing old); plays = refl; steps = e }

-- ---- rounds

then_both : (x y : Played) (next : World → Played) → then_played x (λ v. then_played y next) ≡ then_played (then_played x (λ v. y)) next
then_both x y next = ap (λ (ss : List Step). record { steps = ss; world = (next y.world).world }) (sym (append_assoc x.steps y.steps (next y.world).steps))

-- a round more, at the back
pub rounds_more : (n k : ℕ) (w : World) → rounds n (suc k) w ≡ then_played (rounds n k w) (round n)
unfolding rounds
rounds_more n zero w = ap (λ (ss : List Step). record { steps = ss; world = (round n w).world }) (append-nil (round n w).steps)
rounds_more n (suc k) w = ap (λ (x : Played). then_played (round n w) (λ v. x)) (rounds_more n k (round n w).world) ∙ then_both (round n w) (rounds n k (round n w).world) (round n)

-- so many rounds were played between the two runs, each begun only where the world wasn't calm
pub record AreRounds (old now : RunSoFar) (count : ℕ) : Type 0 where
  pub steps : now ≡ followed old (rounds partition_count count (standing old)).steps
  pub uneasy : (i : ℕ) → i < count → is_calm_of partition_count (rounds partition_count i (standing old)).world ≡ false

pub no_rounds : (old : RunSoFar) → AreRounds old old 0
unfolding rounds
no_rounds old = record { steps = followed_none old; uneasy = λ i less. absurd (omega (arith, less)) }

pub standing_rounds : (old now : RunSoFar) (count : ℕ) → AreRounds old now count → standing now ≡ (rounds partition_count count (standing old)).world
standing_rounds old now count h = standing_played old now (rounds partition_count count (standing old)) (rounds_follow partition_count count (standing old)) h.steps

-- where the world isn't calm after them, that holds of one number more
uneasy_more : (old now : RunSoFar) (count : ℕ) → AreRounds old now count → is_calm_of partition_count (standing now) ≡ false
    → (i : ℕ) → i < count + 1 → is_calm_of partition_count (rounds partition_count i (standing old)).world ≡ false
uneasy_more old now count h e i less = go (cases_lt i count)
  where
    go : (i < count) ⊎ (count ≤ i) → is_calm_of partition_count (rounds partition_count i (standing old)).world ≡ false
    go (inl below) = h.uneasy i below
    go (inr above) =
        let same : i ≡ count = omega (arith, above, less) in
        ap (λ (j : ℕ). is_calm_of partition_count (rounds partition_count j (standing old)).world) same ∙ ap (is_calm_of partition_count) (sym (standing_rounds old now count h)) ∙ e

-- the steps of one round more
steps_more : (old now : RunSoFar) (count : ℕ) → AreRounds old now count
    → (rounds partition_count (count + 1) (standing old)).steps ≡ (rounds partition_count count (standing old)).steps ++ (round partition_count (standing now)).steps
steps_more old now count h =
    ap (λ (k : ℕ). (rounds partition_count k (standing old)).steps) (add-one count)
    ∙ ap (λ (x : Played). x.steps) (rounds_more partition_count count (standing old))
    ∙ ap (λ (v : World). (rounds partition_count count (standing old)).steps ++ (round partition_count v).steps) (sym (standing_rounds old now count h))

pub rounds_underway : (old now : RunSoFar) (count : ℕ) → AreRounds old now count
    → AreUnderway old now (rounds partition_count (count + 1) (standing old)).steps (round partition_count (standing now)).steps
rounds_underway old now count h = record { taken = (rounds partition_count count (standing old)).steps; steps = h.steps; parts = steps_more old now count h }

pub one_round_more : (old now next : RunSoFar) (count : ℕ) → AreRounds old now count → is_calm_of partition_count (standing now) ≡ false → PlaysOn now next command.Round → AreRounds old next (count + 1)
one_round_more old now next count h e p = record {
  steps =
      all_taken old next (rounds partition_count (count + 1) (standing old)).steps
      (more_taken old now next (rounds partition_count (count + 1) (standing old)).steps (round partition_count (standing now)).steps [] p.played.steps
      (rounds_underway old now count h)
      (ap (λ (x : Played). x.steps) (sym p.plays) ∙ sym (append-nil p.played.steps))
      p.steps);
  uneasy = uneasy_more old now count h e;
}

-- the rounds are begun
are_begun : (old now : RunSoFar) (count : ℕ) → AreRounds old now count → is_calm_of partition_count (standing now) ≡ false
    → AreBegun partition_count (standing old) (rounds partition_count (count + 1) (standing old))
are_begun old now count h e = record { number = count + 1; uneasy = uneasy_more old now count h e; played = refl }

pub round_stops_calm : (old now new : RunSoFar) (count : ℕ) → AreRounds old now count → is_calm_of partition_count (standing now) ≡ false → StopsIn now new command.Round → StopsIn old new command.Calm
round_stops_calm old now new count h e s =
    part_stops old now new command.Calm command.Round (rounds partition_count (count + 1) (standing old)) (round partition_count (standing now)).steps [] (inr (are_begun old now count h e))
    (rounds_underway old now count h)
    s
    (ap (λ (x : Played). x.steps) (sym s.begun.plays) ∙ sym (append-nil s.begun.whole.steps))

pub round_stands_calm : (old now new : RunSoFar) (count : ℕ) → AreRounds old now count → is_calm_of partition_count (standing now) ≡ false → StandsIn now new command.Round → StandsIn old new command.Calm
round_stands_calm old now new count h e s =
    part_stands old now new command.Calm command.Round (rounds partition_count (count + 1) (standing old)) (round partition_count (standing now)).steps [] (inr (are_begun old now count h e))
    (rounds_underway old now count h)
    s
    (ap (λ (x : Played). x.steps) (sym s.front.plays) ∙ sym (append-nil s.front.whole.steps))

-- ---- calm

pub calmed_comes : (now : RunSoFar) (count : ℕ) → is_calm_of partition_count (standing now) ≡ true → MayCome now (event.Calmed count)
calmed_comes now count e = e

comes_to_calm : (old now : RunSoFar) (count : ℕ) → AreRounds old now count → is_calm_of partition_count (standing now) ≡ true → ComesToCalm partition_count (standing old) count
comes_to_calm old now count h e = record { calm = ap (is_calm_of partition_count) (sym (standing_rounds old now count h)) ∙ e; before = h.uneasy }

-- the step that tells their number is to come
calming_underway : (old now : RunSoFar) (count : ℕ) → AreRounds old now count → AreUnderway old now (calming partition_count count (standing old)).steps (step_of now (event.Calmed count) ∷ [])
unfolding step_of
calming_underway old now count h = record {
  taken = (rounds partition_count count (standing old)).steps;
  steps = h.steps;
  parts = refl;
}

pub comes_to_rest : (old now new : RunSoFar) (count : ℕ) → AreRounds old now count → is_calm_of partition_count (standing now) ≡ true → new ≡ stepped now (event.Calmed count) → ComesToRest old new count
comes_to_rest old now new count h e s = record {
  least = comes_to_calm old now count h e;
  steps =
      all_taken old new (calming partition_count count (standing old)).steps
      (more_taken old now new (calming partition_count count (standing old)).steps (step_of now (event.Calmed count) ∷ []) [] (step_of now (event.Calmed count) ∷ [])
      (calming_underway old now count h)
      refl
      (s ∙ stepped_followed now (event.Calmed count)));
}

pub calmed_stops : (old now new : RunSoFar) (count : ℕ) → AreRounds old now count → is_calm_of partition_count (standing now) ≡ true → new ≡ now
    → ¬ IsWithin (run_lines now ++ next_lines now (event.Calmed count))
    → StopsIn old new command.Calm
unfolding step_of next_lines
calmed_stops old now new count h e same passes =
    stops_underway old now new command.Calm (calming partition_count count (standing old)) (step_of now (event.Calmed count) ∷ []) [] (step_of now (event.Calmed count)) []
    (inl (record { number = count; reached = comes_to_calm old now count h e; played = refl }))
    (calming_underway old now count h)
    refl
    (same ∙ followed_none now)
    (subst (λ (r : RunSoFar). ¬ IsWithin (run_lines r ++ next_lines now (event.Calmed count))) (sym same) passes)

pub calmed_stands : (old now new : RunSoFar) (count : ℕ) → AreRounds old now count → is_calm_of partition_count (standing now) ≡ true → new ≡ now → StandsIn old new command.Calm
calmed_stands old now new count h e same =
    breaks_stands old new command.Calm
    (breaks_underway old now new command.Calm (calming partition_count count (standing old)) (step_of now (event.Calmed count) ∷ []) [] (step_of now (event.Calmed count)) []
    (inl (record { number = count; reached = comes_to_calm old now count h e; played = refl }))
    (calming_underway old now count h)
    refl
    (same ∙ followed_none now))

-- ---- calm is given up

pub round_gives_up : (old now new : RunSoFar) (count : ℕ) → AreRounds old now count → is_calm_of partition_count (standing now) ≡ false → StandsIn now new command.Round → GivesUp old new
round_gives_up old now new count h e s =
    let later : AreUnderway old new (rounds partition_count (count + 1) (standing old)).steps s.front.others =
    more_taken old now new (rounds partition_count (count + 1) (standing old)).steps (round partition_count (standing now)).steps s.front.others s.taken
    (rounds_underway old now count h)
    (ap (λ (x : Played). x.steps) (sym s.front.plays) ∙ s.front.front)
    s.steps in record {
      rounds = rounds partition_count (count + 1) (standing old);
      begun = are_begun old now count h e;
      taken = later.taken;
      others = s.front.others;
      front = later.parts;
      steps = later.steps;
    }

pub calmed_gives_up : (old now new : RunSoFar) (count : ℕ) → AreRounds old now count → new ≡ now → GivesUp old new
calmed_gives_up old now new count h same = record {
  rounds = rounds partition_count count (standing old);
  begun = record { number = count; uneasy = h.uneasy; played = refl };
  taken = (rounds partition_count count (standing old)).steps;
  others = [];
  front = sym (append-nil (rounds partition_count count (standing old)).steps);
  steps = same ∙ h.steps;
}
