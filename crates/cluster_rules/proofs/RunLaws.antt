-- A script has one run, whose steps are due and lead to the world after it.
use Rattle.std.proofs.Common.{◌≡◌, ℕ, ◌<◌, ◌⊎◌, inl, inr, List, [], ◌∷◌, ◌++◌, sym, ap, subst, ◌∙◌}
use Rattle.std.proofs.lemmas.Bool.{cases_order}
use Rattle.cluster_types.proofs.BoolFacts.{not_both as both}
use Rattle.script_lang.specs.declared.script.Command.{Command}
use Rattle.script_lang.specs.declared.script.Command.TheVariants as command
use Rattle.script_lang.specs.declared.script.Script.{Script}
use Rattle.journal_lines.specs.declared.line.Line.{Line}
use Rattle.cluster_rules.specs.declared.event.Event.{Event}
use Rattle.cluster_rules.specs.Opening.{header_lines}
use Rattle.cluster_rules.specs.Runs.{ComesToCalm, Calms, calming, Plays, PlaysAll, RunOf}
use Rattle.cluster_rules.specs.Steps.{Played, no_steps, then_played, play, flow, round, all_lines}
use Rattle.cluster_rules.specs.World.{World, opened}
use Rattle.cluster_rules.proofs.MarkLaws.{Follows, joined, nothing, one, flow_follows, round_follows, calming_follows}

-- ---- one run

agree : {A : Type 0} (x y z : A) → x ≡ z → y ≡ z → x ≡ y
agree x y z h i = h ∙ sym i

one_number : (n : ℕ) (w : World) (k l : ℕ) → ComesToCalm n w k → ComesToCalm n w l → k ≡ l
one_number n w k l a b = by_order (cases_order k l)
  where
    by_order : (k ≡ l) ⊎ ((k < l) ⊎ (l < k)) → k ≡ l
    by_order (inl e) = e
    by_order (inr (inl below)) = absurd (both _ a.calm (b.before k below))
    by_order (inr (inr above)) = absurd (both _ b.calm (a.before l above))

one_calm : (n : ℕ) (w : World) (x y : Played) → Calms n w x → Calms n w y → x ≡ y
one_calm n w x y a b = a.played ∙ ap (λ k. calming n k w) (one_number n w a.number b.number a.reached b.reached) ∙ sym b.played

pub one_played : (n : ℕ) (w : World) (c : Command) (x y : Played) → Plays n w c x → Plays n w c y → x ≡ y
one_played n w command.Calm x y h i = one_calm n w x y h i
one_played n w c x y h i = agree _ _ _ h i

same_turns : (a b c d : Played) → a ≡ b → c ≡ d → then_played a (λ v. c) ≡ then_played b (λ v. d)
same_turns a b c d e f = ap (λ (p : Played). then_played p (λ v. c)) e ∙ ap (λ (p : Played). then_played b (λ v. p)) f

pub one_play : (n : ℕ) (cs : List Command) (w : World) (x y : Played) → PlaysAll n w cs x → PlaysAll n w cs y → x ≡ y
one_play n [] w x y h i = h ∙ sym i
one_play n (c ∷ cs) w x y h i =
    h.whole
    ∙ same_turns h.first i.first h.others i.others
    (one_played n w c h.first i.first h.plays i.plays)
    (one_play n cs i.first.world h.others i.others (moved (one_played n w c h.first i.first h.plays i.plays)) i.follows)
    ∙ sym i.whole
  where
    moved : h.first ≡ i.first → PlaysAll n i.first.world cs h.others
    moved e = subst (λ (p : Played). PlaysAll n p.world cs h.others) e h.follows

pub one_journal : (n : ℕ) (s : Script) (j k : List Line) → RunOf n s j → RunOf n s k → j ≡ k
one_journal n s j k a b =
    a.written
    ∙ ap (λ (p : Played). header_lines s.header ++ all_lines p.steps) (one_play n s.commands (opened s.header) a.played b.played a.plays b.plays)
    ∙ sym b.written

-- ---- the steps of a run

by_same : (n : ℕ) (w : World) (x y : Played) → x ≡ y → Follows n w y → Follows n w x
by_same n w x y e h = subst (Follows n w) (sym e) h

by_event : (n : ℕ) (w : World) (e : Event) (x : Played) → x ≡ play n e w → Follows n w x
by_event n w e x h = by_same n w x (play n e w) h (one n e w)

pub command_follows : (n : ℕ) (w : World) (c : Command) (x : Played) → Plays n w c x → Follows n w x
command_follows n w command.Flow x h = by_same n w x (flow n w) h (flow_follows n w)
command_follows n w command.Round x h = by_same n w x (round n w) h (round_follows n w)
command_follows n w command.Calm x h = by_same n w x (calming n h.number w) h.played (calming_follows n h.number w)
command_follows n w c x h = by_event n w _ x h

pub commands_follow : (n : ℕ) (cs : List Command) (w : World) (x : Played) → PlaysAll n w cs x → Follows n w x
commands_follow n [] w x h = by_same n w x (no_steps w) h (nothing n w)
commands_follow n (c ∷ cs) w x h =
    by_same n w x (then_played h.first (λ v. h.others)) h.whole
    (joined n w h.first (λ v. h.others) (command_follows n w c h.first h.plays) (commands_follow n cs h.first.world h.others h.follows))
