-- The laws of keys hold after each round.
use Rattle.std.proofs.Common.{ℕ, List, [], ◌∷◌, map}
use Rattle.cluster_rules.specs.declared.event.Event.{Event}
use Rattle.cluster_rules.specs.declared.event.Event.TheVariants as event
use Rattle.cluster_rules.specs.Steps.{flow, play, play_all, round}
use Rattle.cluster_rules.specs.World.{World, up_nodes}
use Rattle.calm_laws.specs.Laws.{AreIds, HasLaws}
use Rattle.calm_laws.proofs.Along.{EventsKeep}
use Rattle.calm_laws.proofs.Lawful.{deliveries_keep, ticks_keep}

-- what each event keeps holds after all of them
pub events_kept : (n : ℕ) (S : World → Type 0) (es : List Event) (w : World) → EventsKeep n S es → S w → S (play_all n es w).world
events_kept n S [] w k s = s
events_kept n S (e ∷ es) w k s = events_kept n S es (play n e w).world k.1 (k.0 w s)

lawful_flow : (n : ℕ) (w : World) → HasLaws w → HasLaws (flow n w).world
lawful_flow n w h = events_kept n HasLaws (map event.Deliver w.network.flying) w (deliveries_keep n w.network.flying) h

pub lawful_round : (n : ℕ) (w : World) → AreIds (up_nodes w) → HasLaws w → HasLaws (round n w).world
lawful_round n w ids h =
    let t : World = (play_all n (map event.Tick (up_nodes w)) w).world in
    let one : World = (flow n t).world in
    let two : World = (flow n one).world in
    let three : World = (flow n two).world in
    lawful_flow n three (lawful_flow n two (lawful_flow n one (lawful_flow n t (events_kept n HasLaws (map event.Tick (up_nodes w)) w (ticks_keep n (up_nodes w) ids) h))))
