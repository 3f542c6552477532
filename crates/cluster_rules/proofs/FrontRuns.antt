-- Fronts of runs: whole runs and those that were begun are some, and their steps are allowed.
use Rattle.std.proofs.Common.{◌≡◌, ℕ, true, List, [], ◌∷◌, ◌++◌, inl, inr, refl, sym, ap, subst, ◌∙◌}
use Rattle.std.specs.List.{list_all}
use Rattle.cluster_types.proofs.BoolFacts.{and_left, and_right}
use Rattle.script_lang.specs.declared.script.Command.{Command}
use Rattle.script_lang.specs.declared.script.Command.TheVariants as command
use Rattle.script_lang.specs.declared.script.Script.{Script}
use Rattle.journal_lines.specs.declared.line.Line.{Line}
use Rattle.cluster_rules.specs.Allowed.{AreAllowed, is_playable}
use Rattle.cluster_rules.specs.Begun.{MayPlay, AllBegun, BegunRunOf}
use Rattle.cluster_rules.specs.FrontRuns.{AreFrontOf, FrontRunOf}
use Rattle.cluster_rules.specs.Marks.{after_all}
use Rattle.cluster_rules.specs.Runs.{PlaysAll, RunOf}
use Rattle.cluster_rules.specs.Steps.{Step, Played, marks_of, flow, rounds}
use Rattle.cluster_rules.specs.World.{World, opened}
use Rattle.cluster_rules.proofs.AllowedLaws.{command_allowed, rounds_allowed, allowed_append, by_same, stay}
use Rattle.cluster_rules.proofs.MarkLaws.{Follows}
use Rattle.cluster_rules.proofs.RunLaws.{command_follows}

-- ---- whole runs, and those that were begun

plays_are_front : (n : ℕ) (cs : List Command) (w : World) (x : Played) → PlaysAll n w cs x → AreFrontOf n w cs x.steps
plays_are_front n [] w x h = ap (λ (p : Played). p.steps) h
plays_are_front n (c ∷ cs) w x h = inr (record {
  first = h.first;
  plays = h.plays;
  others = h.others.steps;
  begun = plays_are_front n cs h.first.world h.others h.follows;
  whole = ap (λ (p : Played). p.steps) h.whole;
})

pub run_is_front : (n : ℕ) (s : Script) (j : List Line) → RunOf n s j → FrontRunOf n s j
run_is_front n s j r = record { taken = r.played.steps; front = plays_are_front n s.commands (opened s.header) r.played r.plays; written = r.written }

begun_are_front : (n : ℕ) (cs : List Command) (w : World) (taken : List Step) (next : Step) → AllBegun n w cs taken next → AreFrontOf n w cs taken
begun_are_front n [] w taken next h = absurd h
begun_are_front n (c ∷ cs) w taken next (inl h) = inl (record { whole = h.whole; plays = h.plays; others = next ∷ h.front.others; front = h.front.in_order })
begun_are_front n (c ∷ cs) w taken next (inr h) =
    inr (record { first = h.first; plays = h.plays; others = h.others; begun = begun_are_front n cs h.first.world h.others next h.begun; whole = h.whole })

pub begun_is_front : (n : ℕ) (s : Script) (j next : List Line) → BegunRunOf n s j next → FrontRunOf n s j
begun_is_front n s j next r = record { taken = r.taken; front = begun_are_front n s.commands (opened s.header) r.taken r.step r.begun; written = r.written }

-- ---- fronts are allowed

pub front_allowed : (n : ℕ) (w : World) (ss ts : List Step) → AreAllowed n w (ss ++ ts) → AreAllowed n w ss
front_allowed n w [] ts h = tt
front_allowed n w (s ∷ ss) ts h = (h.0, front_allowed n (after_all w (marks_of s)) ss ts h.1)

may_allowed : (n : ℕ) (w : World) (c : Command) (x : Played) → is_playable w.nodes c ≡ true → MayPlay n w c x → AreAllowed n w x.steps
may_allowed n w command.Calm x e (inl h) = command_allowed n w command.Calm x e h
may_allowed n w command.Calm x e (inr h) = by_same n w x (rounds n h.number w) h.played (rounds_allowed n h.number w)
may_allowed n w c x e h = command_allowed n w c x e h

fronts_allowed_in : (n : ℕ) (ns : List ℕ) (cs : List Command) (w : World) (taken : List Step) → w.nodes ≡ ns → list_all (is_playable ns) cs ≡ true → AreFrontOf n w cs taken → AreAllowed n w taken
fronts_allowed_in n ns [] w taken same e h = subst (λ ss. AreAllowed n w ss) (sym h) tt
fronts_allowed_in n ns (c ∷ cs) w taken same e (inl h) =
    front_allowed n w taken h.others
    (subst (λ ss. AreAllowed n w ss) h.front (may_allowed n w c h.whole (ap (λ ms. is_playable ms c) same ∙ and_left (is_playable ns c) _ e) h.plays))
fronts_allowed_in n ns (c ∷ cs) w taken same e (inr h) =
    subst (λ ss. AreAllowed n w ss) (sym h.whole)
    (allowed_append n h.first.steps h.others w
    (command_allowed n w c h.first (ap (λ ms. is_playable ms c) same ∙ and_left (is_playable ns c) _ e) h.plays)
    (subst (λ (v : World). AreAllowed n v h.others) (sym first.leads)
    (fronts_allowed_in n ns cs h.first.world h.others (stay n w h.first first ∙ same) (and_right (is_playable ns c) _ e) h.begun)))
  where
    first : Follows n w h.first
    first = command_follows n w c h.first h.plays

pub fronts_allowed : (n : ℕ) (w : World) (cs : List Command) (taken : List Step) → list_all (is_playable w.nodes) cs ≡ true → AreFrontOf n w cs taken → AreAllowed n w taken
fronts_allowed n w cs taken e h = fronts_allowed_in n w.nodes cs w taken refl e h

-- ---- a flow of nothing

abbrev idle : Script
idle = record { header = []; commands = command.Flow ∷ [] }

pub idle_front : FrontRunOf 0 idle []
idle_front = record { taken = []; front = inl (record { whole = flow 0 (opened []); plays = refl; others = []; front = refl }); written = refl }

no_more : (taken : List Step) (next : Step) (others : List Step) → [] ≡ taken ++ next ∷ others → ⊥
no_more [] next others e = cc
no_more (s ∷ taken) next others e = cc

pub idle_not_begun : (j next : List Line) → BegunRunOf 0 idle j next → ⊥
idle_not_begun j next r = go r.begun
  where
    go : AllBegun 0 (opened []) (command.Flow ∷ []) r.taken r.step → ⊥
    go (inl h) = no_more r.taken r.step h.front.others (sym (ap (λ (p : Played). p.steps) h.plays) ∙ h.front.in_order)
    go (inr h) = h.begun
