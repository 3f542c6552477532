-- What the events of a run bring keeps its ranges, where its commands do.
use Rattle.std.proofs.Common.{inl, inr, ◌≡◌, ℕ, zero, suc, List, [], ◌∷◌, ◌++◌, sym, subst, map}
use Rattle.std.specs.Prelude.{All}
use Rattle.std.specs.List.{AllByRecursion}
use Rattle.std.proofs.lemmas.List.Elements.{All-from_recursion}
use Rattle.script_lang.specs.declared.script.Command.{Command}
use Rattle.script_lang.specs.declared.script.Command.TheVariants as command
use Rattle.script_lang.specs.declared.script.Script.{Script}
use Rattle.script_lang.specs.Proper.{IsProperHeaderLine, IsProperCommand}
use Rattle.cluster_rules.specs.declared.event.Event.{Event}
use Rattle.cluster_rules.specs.declared.event.Event.TheVariants as event
use Rattle.cluster_rules.specs.Begun.{MayPlay}
use Rattle.cluster_rules.specs.FrontRuns.{AreFrontOf}
use Rattle.cluster_rules.specs.Runs.{Plays}
use Rattle.cluster_rules.specs.Steps.{Step, Played, play, play_all, flow, flows, round, rounds}
use Rattle.cluster_rules.specs.World.{World, opened, up_nodes}
use Rattle.cluster_rules.proofs.MarkLaws.{round_follows}
use Rattle.cluster_rules.proofs.RunLaws.{command_follows}
use Rattle.key_laws.proofs.Runs.{AreIds, up_ids, of_first, of_others, declared_ids, follows_nodes}
use Rattle.run_laws.specs.Taken.{IsProperEvent}

-- ---- who ticks has an id

abbrev pub AllProper : List Step → Type 0
AllProper ss = AllByRecursion (λ (s : Step). IsProperEvent s.event) ss

proper_append : (ss ts : List Step) → AllProper ss → AllProper ts → AllProper (ss ++ ts)
proper_append [] ts h i = i
proper_append (s ∷ ss) ts h i = (h.0, proper_append ss ts h.1 i)

abbrev AreProper : List Event → Type 0
AreProper [] = Unit {0}
AreProper (e ∷ es) = IsProperEvent e × AreProper es

proper_all : (n : ℕ) (es : List Event) (w : World) → AreProper es → AllProper (play_all n es w).steps
proper_all n [] w h = tt
proper_all n (e ∷ es) w h = (h.0, proper_all n es (play n e w).world h.1)

proper_deliveries : (is : List ℕ) → AreProper (map event.Deliver is)
proper_deliveries [] = tt
proper_deliveries (i ∷ is) = (tt, proper_deliveries is)

proper_ticks : (ns : List ℕ) → AreIds ns → AreProper (map event.Tick ns)
proper_ticks [] h = tt
proper_ticks (n ∷ ns) h = (h.0, proper_ticks ns h.1)

proper_flow : (n : ℕ) (w : World) → AllProper (flow n w).steps
proper_flow n w = proper_all n _ w (proper_deliveries w.network.flying)

proper_flows : (n k : ℕ) (w : World) → AllProper (flows n k w).steps
proper_flows n zero w = tt
proper_flows n (suc k) w = proper_append (flow n w).steps (flows n k (flow n w).world).steps (proper_flow n w) (proper_flows n k (flow n w).world)

proper_round : (n : ℕ) (w : World) → AreIds w.nodes → AllProper (round n w).steps
proper_round n w h =
    let ticks : Played = play_all n (map event.Tick (up_nodes w)) w in
    proper_append ticks.steps (flows n 4 ticks.world).steps (proper_all n _ w (proper_ticks (up_nodes w) (up_ids w h))) (proper_flows n 4 ticks.world)

pub proper_rounds : (n k : ℕ) (w : World) → AreIds w.nodes → AllProper (rounds n k w).steps
unfolding rounds
proper_rounds n zero w h = tt
proper_rounds n (suc k) w h =
    proper_append (round n w).steps (rounds n k (round n w).world).steps (proper_round n w h)
    (proper_rounds n k (round n w).world (subst (λ ns. AreIds ns) (sym (follows_nodes n w (round n w) (round_follows n w))) h))

by_event : (n : ℕ) (w : World) (e : Event) (x : Played) → x ≡ play n e w → IsProperEvent e → AllProper x.steps
by_event n w e x h b = subst (λ (y : Played). AllProper y.steps) (sym h) (b, tt)

proper_command : (n : ℕ) (w : World) (c : Command) (x : Played) → AreIds w.nodes → IsProperCommand c → Plays n w c x → AllProper x.steps
proper_command n w command.Flow x ids p h = subst (λ (y : Played). AllProper y.steps) (sym h) (proper_flow n w)
proper_command n w command.Round x ids p h = subst (λ (y : Played). AllProper y.steps) (sym h) (proper_round n w ids)
proper_command n w command.Calm x ids p h =
    subst (λ (y : Played). AllProper y.steps) (sym h.played) (proper_append (rounds n h.number w).steps (play n (event.Calmed h.number) (rounds n h.number w).world).steps (proper_rounds n h.number w ids) (tt, tt))
proper_command n w (command.Tick node) x ids p h = by_event n w (event.Tick node) x h p
proper_command n w (command.Clock node time) x ids p h = by_event n w (event.Clock node time) x h p.1
proper_command n w (command.Groups groups) x ids p h = by_event n w (event.Groups groups) x h p
proper_command n w (command.Put node d v) x ids p h = by_event n w (event.Put node d v) x h (p.1, p.2)
proper_command n w (command.Get node d) x ids p h = by_event n w (event.Get node d) x h p.1
proper_command n w (command.Del node d) x ids p h = by_event n w (event.Del node d) x h p.1
proper_command n w (command.ClientPut d v) x ids p h = by_event n w (event.ClientPut d v) x h p
proper_command n w (command.ClientGet d) x ids p h = by_event n w (event.ClientGet d) x h p
proper_command n w (command.ClientDel d) x ids p h = by_event n w (event.ClientDel d) x h p
proper_command n w c x ids p h = by_event n w _ x h tt

-- ---- a run that was begun

proper_front : (ss ts : List Step) → AllProper (ss ++ ts) → AllProper ss
proper_front [] ts h = tt
proper_front (s ∷ ss) ts h = (h.0, proper_front ss ts h.1)

may_be_proper : (n : ℕ) (w : World) (c : Command) (x : Played) → AreIds w.nodes → IsProperCommand c → MayPlay n w c x → AllProper x.steps
may_be_proper n w command.Calm x ids p (inl h) = proper_command n w command.Calm x ids p h
may_be_proper n w command.Calm x ids p (inr h) = subst (λ (y : Played). AllProper y.steps) (sym h.played) (proper_rounds n h.number w ids)
may_be_proper n w c x ids p h = proper_command n w c x ids p h

proper_fronts : (n : ℕ) (cs : List Command) (w : World) (taken : List Step) → AreIds w.nodes → All IsProperCommand cs → AreFrontOf n w cs taken → AllProper taken
proper_fronts n [] w taken ids p h = subst (λ (ss : List Step). AllProper ss) (sym h) tt
proper_fronts n (c ∷ cs) w taken ids p (inl h) = proper_front taken h.others (subst (λ (ss : List Step). AllProper ss) h.front (may_be_proper n w c h.whole ids (of_first IsProperCommand c cs p) h.plays))
proper_fronts n (c ∷ cs) w taken ids p (inr h) = subst (λ (ss : List Step). AllProper ss) (sym h.whole)
    (proper_append h.first.steps h.others
    (proper_command n w c h.first ids (of_first IsProperCommand c cs p) h.plays)
    (proper_fronts n cs h.first.world h.others (subst (λ ns. AreIds ns) (sym (follows_nodes n w h.first (command_follows n w c h.first h.plays))) ids) (of_others IsProperCommand c cs p) h.begun))

pub events_of_front : (n : ℕ) (s : Script) (taken : List Step) → All IsProperHeaderLine s.header → All IsProperCommand s.commands → AreFrontOf n (opened s.header) s.commands taken → All (λ (y : Step). IsProperEvent y.event) taken
events_of_front n s taken header commands h = All-from_recursion (λ (y : Step). IsProperEvent y.event) taken (proper_fronts n s.commands (opened s.header) taken (declared_ids s.header header) commands h)
