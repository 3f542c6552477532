-- Commands that are one event, and calm.
use Rattle.std.proofs.Common.{◌≡◌, ℕ, inl, true, List, [], ◌∷◌, ◌++◌, Option, Some, None, IsSome, refl, sym, ap, subst, ◌∙◌, IsTrue}
use Rattle.cluster_types.specs.Partitions.{partition_count}
use Rattle.script_lang.specs.declared.script.Command.{Command}
use Rattle.script_lang.specs.declared.script.Command.TheVariants as command
use Rattle.journal_text.specs.Journals.{IsWithin}
use Rattle.cluster_rules.specs.declared.event.Event.{Event}
use Rattle.cluster_rules.specs.Allowed.{event_of, is_playable}
use Rattle.cluster_rules.specs.Begun.{MayPlay}
use Rattle.cluster_rules.specs.Opening.{declared_nodes}
use Rattle.cluster_rules.specs.Runs.{Plays, calming}
use Rattle.cluster_rules.specs.Steps.{Played, play}
use Rattle.cluster_rules.specs.World.{World}
use Rattle.cluster_rules.proofs.AllowedLaws.{command_allowed}
use Rattle.world.specs.Steps.{RunSoFar, MayCome, standing, run_lines, next_lines, stepped}
use Rattle.world.proofs.KnownLaws.{same_nodes}
use Rattle.calm_run.specs.Playing.{ComesToRest, PlaysOn, StandsIn, StopsIn}
use Rattle.calm_run.proofs.Sequels.{breaks_stands, breaks_underway, followed_none, not_begun, step_of, stepped_followed, stops_underway}

-- ---- one event

same_event : (a b : Event) → Some a ≡ Some b → a ≡ b
same_event a b e = cc

-- no event is none
not_none : (e : Event) → None ≡ Some e → ⊥
not_none e h = cc

by_play : (n : ℕ) (w : World) (a b : Event) → Some a ≡ Some b → play n b w ≡ play n a w
by_play n w a b h = ap (λ (e : Event). play n e w) (sym (same_event a b h))

-- a command that is an event plays it
plays_event : (n : ℕ) (w : World) (c : Command) (e : Event) → event_of c ≡ Some e → Plays n w c (play n e w)
plays_event n w command.Flow e h = absurd (not_none e h)
plays_event n w command.Round e h = absurd (not_none e h)
plays_event n w command.Calm e h = absurd (not_none e h)
plays_event n w c e h = by_play n w _ e h

whole_may : (n : ℕ) (w : World) (c : Command) (x : Played) → Plays n w c x → MayPlay n w c x
whole_may n w command.Calm x h = inl h
whole_may n w c x h = h

pub event_may_come : (r : RunSoFar) (c : Command) (e : Event) → event_of c ≡ Some e → IsTrue (is_playable (declared_nodes r.header) c) → MayCome r e
event_may_come r c e h playable =
    (command_allowed partition_count (standing r) c (play partition_count e (standing r)) (subst (λ (ns : List ℕ). is_playable ns c ≡ true) (sym (same_nodes r)) playable) (plays_event partition_count (standing r) c e h)).0.comes

pub event_played : (old new : RunSoFar) (c : Command) (e : Event) → event_of c ≡ Some e → new ≡ stepped old e → PlaysOn old new c
unfolding step_of
event_played old new c e h s = record {
  played = play partition_count e (standing old);
  plays = plays_event partition_count (standing old) c e h;
  steps = s ∙ stepped_followed old e;
}

pub event_not_fit : (old new : RunSoFar) (c : Command) (e : Event) → event_of c ≡ Some e → new ≡ old → ¬ IsWithin (run_lines old ++ next_lines old e) → StopsIn old new c
unfolding step_of next_lines
event_not_fit old new c e h same passes =
    stops_underway old old new c (play partition_count e (standing old)) (step_of old e ∷ []) [] (step_of old e) []
    (whole_may partition_count (standing old) c (play partition_count e (standing old)) (plays_event partition_count (standing old) c e h))
    (not_begun old (step_of old e ∷ []))
    refl
    (same ∙ followed_none old)
    (subst (λ (r : RunSoFar). ¬ IsWithin (run_lines r ++ next_lines old e)) (sym same) passes)

-- nothing of it was taken
pub event_not_taken : (old new : RunSoFar) (c : Command) (e : Event) → event_of c ≡ Some e → new ≡ old → StandsIn old new c
unfolding step_of
event_not_taken old new c e h same =
    breaks_stands old new c (breaks_underway old old new c (play partition_count e (standing old)) (step_of old e ∷ []) [] (step_of old e) []
    (whole_may partition_count (standing old) c (play partition_count e (standing old)) (plays_event partition_count (standing old) c e h))
    (not_begun old (step_of old e ∷ []))
    refl
    (same ∙ followed_none old))

none_is_none : IsSome {T = Event} None → ⊥
none_is_none is = cc

pub event_not_made : (old new : RunSoFar) (c : Command) → IsSome (event_of c) → new ≡ old → StandsIn old new c
event_not_made old new c some same = go (event_of c) refl some
  where
    go : (o : Option Event) → event_of c ≡ o → IsSome o → StandsIn old new c
    go None h is = absurd (none_is_none is)
    go (Some e) h is = event_not_taken old new c e h same

-- ---- several events

pub calm_is_no_event : (c : Command) (e : Event) → event_of c ≡ Some e → c ≡ command.Calm → ⊥
calm_is_no_event c e h is = not_none e (sym (ap event_of is) ∙ h)

pub calm_is_none : (c : Command) → IsSome (event_of c) → c ≡ command.Calm → ⊥
calm_is_none c some is = none_is_none (subst (λ (d : Command). IsSome (event_of d)) is some)

-- a command that is no event, no flow and no round is calm
pub is_calm_command : (c : Command) → event_of c ≡ None → (c ≡ command.Flow → ⊥) → (c ≡ command.Round → ⊥) → c ≡ command.Calm
is_calm_command command.Flow e flows rounds = absurd (flows refl)
is_calm_command command.Round e flows rounds = absurd (rounds refl)
is_calm_command command.Calm e flows rounds = refl
is_calm_command c e flows rounds = absurd (not_none _ (sym e))

-- rounds up to calm, and their number told, are what calm plays
pub rest_played : (old new : RunSoFar) (c : Command) (count : ℕ) → c ≡ command.Calm → ComesToRest old new count → PlaysOn old new c
rest_played old new c count same h =
    subst (PlaysOn old new) (sym same) (record {
      played = calming partition_count count (standing old);
      plays = record { number = count; reached = h.least; played = refl };
      steps = h.steps;
    })
