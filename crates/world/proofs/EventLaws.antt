-- What each event that moves no node leaves of a world's parts.
use Rattle.std.proofs.Common.{◌≡◌, ◌≢◌, ◌==◌, ℕ, ◌+◌, ◌-◌, Bool, true, false, List, [], ◌∷◌, ◌++◌, All, AllPairs, map, Option, Some, None, refl, sym, ap, ap₂, subst, ◌∙◌, arith, set}
use Rattle.std.specs.Prelude.{slice_get, option_map, if◌then◌else◌}
use Rattle.std.specs.FinMap as finite
use Rattle.std.proofs.lemmas.Bool.Decides.{nat_tests}
use Rattle.std.proofs.lemmas.List.{append-nil}
use Rattle.cluster_types.specs.Partitions.{partition_count, partition_of}
use Rattle.journal_lines.specs.declared.line.Line.{Line}
use Rattle.journal_lines.specs.declared.line.Line.TheVariants as line
use Rattle.journal_lines.specs.declared.refusal.Refusal.{Refusal}
use Rattle.net_script.specs.declared.net.Flying.{Flying}
use Rattle.net_script.specs.Network as nets
use Rattle.client_map.specs.declared.client_map.Entry.{Entry}
use Rattle.node_rules.specs.Facts.{Facts}
use Rattle.node_rules.specs.Map.{entry_of}
use Rattle.node_rules.specs.Notes.{marked}
use Rattle.node_rules.specs.Requests.{map_refusal}
use Rattle.node_rules.specs.Shows.{due_map, map_if, map_line, map_lines}
use Rattle.node_rules.specs.Steps.{Planning}
use Rattle.cluster_rules.specs.declared.event.Event.{Event}
use Rattle.cluster_rules.specs.declared.event.Event.TheVariants as event
use Rattle.cluster_rules.specs.DueEvents.{due, due_place, losing, written}
use Rattle.cluster_rules.specs.Marks.{Writes, after_all, event_begun, taken_by}
use Rattle.journal_readings.specs.Messages.{Posting}
use Rattle.cluster_rules.specs.Network.{Network, flying_at}
use Rattle.cluster_rules.specs.NodeSteps.{after_step}
use Rattle.cluster_rules.specs.World.{World, changed_at, new_if, is_up}
use Rattle.run_laws.specs.Taken.{IsProperEvent}
use Rattle.wire_messages.specs.Nodes.{IsId}
use Rattle.world.specs.Arriving.{OnlyLands, landed_if}
use Rattle.world.specs.Idle.{DoesNothing}
use Rattle.world.specs.Sent.{landing_from}
use Rattle.world.specs.Stands.{Stands, IsNetwork, AreDivided, flying_posting}
use Rattle.world.specs.Steps.{RunSoFar, standing, next_lines, marking}
use Rattle.world.proofs.NetLaws.{found, one_gone, same_network}
use Rattle.world.proofs.Places.{set_at, set_image}
use Rattle.node_rules.specs.Effects.{lines_only}
use Rattle.node_rules.specs.Entering.{closing}
use Rattle.node_rules.specs.Tick.{parts, parts_in_order}

-- ---- the event does nothing but take a message out of flight

pub landed_network : (net net' : nets.NetworkState) (n : Network) (landing : Option ℕ) → IsNetwork net n → nets.IsSameNetwork (landing_from net landing) net' → IsNetwork net' (landed_if n landing)
landed_network net net' n None h e = same_network net net' n e h
landed_network net net' n (Some i) h e = one_gone net net' n i h e.flying e.sent e.groups

pub stands_landed : (r : RunSoFar) (e : Event) (landing : Option ℕ) (ids : List ℕ) (nodes : List Planning) (clocks : List ℕ) (net net' : nets.NetworkState) (client : List (Option Entry))
    → OnlyLands r e landing → Stands (standing r) ids nodes clocks net client → nets.IsSameNetwork (landing_from net landing) net'
    → Stands (after_step (standing r) e) ids nodes clocks net' client
stands_landed r e landing ids nodes clocks net net' client only h same =
    subst (λ (v : World). Stands v ids nodes clocks net' client) (sym only.only) (record {
      declared = h.declared;
      facts = h.facts;
      times = h.times;
      network = subst (λ (n : Network). IsNetwork net' n) (sym only.lands) (landed_network net net' (standing r).network landing h.network same);
      tables = h.tables;
    })

-- what is written adds nothing
adds_none : (r : RunSoFar) (e : Event) (landing : Option ℕ) (ls : List Line) → due (standing r) e ≡ ls → taken_by (standing r).network e ≡ landed_if (standing r).network landing
    → after_all (event_begun (standing r) e) (map Writes ls) ≡ event_begun (standing r) e → OnlyLands r e landing
adds_none r e landing ls made lands none = record { lands = lands; only = ap (λ (xs : List Line). after_all (event_begun (standing r) e) (map Writes xs)) made ∙ none }

pub hash_only : (r : RunSoFar) (d : List ℕ) → OnlyLands r (event.Hash d) None
hash_only r d = record { lands = refl; only = refl }

pub place_only : (r : RunSoFar) (p : ℕ) → OnlyLands r (event.Place p) None
place_only r p = record { lands = refl; only = refl }

pub show_only : (r : RunSoFar) (n : ℕ) (d : List ℕ) → OnlyLands r (event.Show n d) None
show_only r n d = record { lands = refl; only = refl }

pub calmed_only : (r : RunSoFar) (rounds : ℕ) → OnlyLands r (event.Calmed rounds) None
calmed_only r rounds = record { lands = refl; only = refl }

maps_none : (w : World) (f : Facts) (ps : List ℕ) → after_all w (map Writes (map (λ p. map_line f p (entry_of (Rattle.node_rules.specs.Facts.list_at f p) f.exchange.rows p)) ps)) ≡ w
maps_none w f [] = refl
maps_none w f (p ∷ ps) = maps_none w f ps

map_none : (w : World) (net : Network) (n : ℕ) (f : Facts) (from to : ℕ) (o : Option Refusal) → after_all w (map Writes (map_if f from to o ++ [])) ≡ w
map_none w net n f from to (Some cause) = refl
map_none w net n f from to None = ap (λ (ls : List Line). after_all w (map Writes ls)) (append-nil (map_lines f from to)) ∙ maps_none w f (Rattle.std.specs.List.range_with_len from (to + 1 - from))

pub map_only : (r : RunSoFar) (n from to : ℕ) → OnlyLands r (event.Map n from to) None
map_only r n from to = record { lands = refl; only = map_none (event_begun (standing r) (event.Map n from to)) (standing r).network n ((standing r).facts n) from to (map_refusal ((standing r).facts n)) }

-- ---- a node that is down, or up

pub tick_only : (r : RunSoFar) (n : ℕ) → is_up (standing r) n ≡ false
    → OnlyLands r (event.Tick n) None
tick_only r n down = adds_none r (event.Tick n) None (line.Down ((standing r).facts n).me ∷ [])
    (ap (λ b. written (standing r).network n (if b then parts_in_order (parts partition_count) ((standing r).facts n) else lines_only (line.Down ((standing r).facts n).me ∷ []))) down) refl refl

pub stop_only : (r : RunSoFar) (n : ℕ) → is_up (standing r) n ≡ false
    → OnlyLands r (event.Stop n) None
stop_only r n down = adds_none r (event.Stop n) None (line.Down ((standing r).facts n).me ∷ [])
    (ap (λ b. written (standing r).network n (if b then lines_only (closing ((standing r).facts n) ++ line.Stop ((standing r).facts n).me ∷ []) else lines_only (line.Down ((standing r).facts n).me ∷ []))) down) refl refl

pub start_only : (r : RunSoFar) (n : ℕ) → is_up (standing r) n ≡ true
    → OnlyLands r (event.Start n) None
start_only r n up = adds_none r (event.Start n) None (line.Up ((standing r).facts n).me ∷ [])
    (ap (λ b. written (standing r).network n (if b then lines_only (line.Up ((standing r).facts n).me ∷ []) else lines_only (line.Start ((standing r).facts n).me ∷ []))) up) refl refl

-- their lines, where the facts are the node's own
pub tick_down : (r : RunSoFar) (n : ℕ) → ((standing r).facts n).me ≡ n → is_up (standing r) n ≡ false → line.Down n ∷ [] ≡ next_lines r (event.Tick n)
unfolding next_lines
tick_down r n me down =
    ap (λ m. line.Down m ∷ []) (sym me) ∙ sym (ap (λ b. written (standing r).network n (if b then parts_in_order (parts partition_count) ((standing r).facts n) else lines_only (line.Down ((standing r).facts n).me ∷ []))) down)

pub stop_down : (r : RunSoFar) (n : ℕ) → ((standing r).facts n).me ≡ n → is_up (standing r) n ≡ false → line.Down n ∷ [] ≡ next_lines r (event.Stop n)
unfolding next_lines
stop_down r n me down =
    ap (λ m. line.Down m ∷ []) (sym me) ∙ sym (ap (λ b. written (standing r).network n (if b then lines_only (closing ((standing r).facts n) ++ line.Stop ((standing r).facts n).me ∷ []) else lines_only (line.Down ((standing r).facts n).me ∷ []))) down)

pub start_up : (r : RunSoFar) (n : ℕ) → ((standing r).facts n).me ≡ n → is_up (standing r) n ≡ true → line.Up n ∷ [] ≡ next_lines r (event.Start n)
unfolding next_lines
start_up r n me up =
    ap (λ m. line.Up m ∷ []) (sym me) ∙ sym (ap (λ b. written (standing r).network n (if b then lines_only (line.Up ((standing r).facts n).me ∷ []) else lines_only (line.Start ((standing r).facts n).me ∷ []))) up)

-- ---- a loss

losing_none : (w : World) (i : ℕ) (o : Option Posting) → after_all w (map Writes (losing i o)) ≡ w
losing_none w i None = refl
losing_none w i (Some p) = refl

pub lose_only : (r : RunSoFar) (i : ℕ) → OnlyLands r (event.Lose i) (Some i)
lose_only r i = record { lands = refl; only = losing_none (event_begun (standing r) (event.Lose i)) i (flying_at (standing r).network i) }

-- ---- a clock, and groups

pub at_itself : {A : Type 0} (f : ℕ → A) (n : ℕ) (new : A) → changed_at f n new n ≡ new
at_itself f n new = let same : (n == n) ≡ true = grind (arith, nat_tests) in ap (new_if new f n) same

pub at_another : {A : Type 0} (f : ℕ → A) (n : ℕ) (new : A) (m : ℕ) → (n ≡ m → ⊥) → changed_at f n new m ≡ f m
at_another f n new m differ = let other : (n == m) ≡ false = grind (arith, nat_tests, differ) in ap (new_if new f m) other

pub stands_clock : (w : World) (ids : List ℕ) (nodes : List Planning) (clocks clocks' : List ℕ) (net : nets.NetworkState) (client : List (Option Entry)) (n time place : ℕ)
    → Stands w ids nodes clocks net client → AllPairs (λ x y. x ≢ y) ids → slice_get ids place ≡ Some n → clocks' ≡ set clocks place time
    → Stands (after_step w (event.Clock n time)) ids nodes clocks' net client
stands_clock w ids nodes clocks clocks' net client n time place h distinct there changed = record {
  declared = h.declared;
  facts = h.facts;
  times = changed ∙ ap₂ (λ (ts : List ℕ) t. set ts place t) h.times (sym (at_itself w.clocks n time)) ∙ set_at w.clocks (changed_at w.clocks n time) n ids place distinct there (at_another w.clocks n time);
  network = h.network;
  tables = h.tables;
}

pub stands_groups : (w : World) (ids : List ℕ) (nodes : List Planning) (clocks : List ℕ) (net net' : nets.NetworkState) (client : List (Option Entry)) (groups : List (List ℕ))
    → Stands w ids nodes clocks net client → net'.flying ≡ net.flying → net'.sent ≡ net.sent → net'.groups ≡ Some groups
    → Stands (after_step w (event.Groups groups)) ids nodes clocks net' client
stands_groups w ids nodes clocks net net' client groups h flying sent set = record {
  declared = h.declared;
  facts = h.facts;
  times = h.times;
  network = record {
    sent = sent ∙ h.network.sent;
    numbers = ap nets.flying_ids flying ∙ h.network.numbers;
    postings = subst (λ (es : List (ℕ × Flying)). All (λ e. Rattle.cluster_rules.specs.Network.posting_at w.network e.0 ≡ Some (flying_posting e.1)) es) (sym flying) h.network.postings;
    groups = subst (λ (o : Option (List (List ℕ))). AreDivided o groups) (sym set) refl;
  };
  tables = h.tables;
}

-- ---- a mark

pub stands_marked : (w : World) (ids : List ℕ) (nodes : List Planning) (clocks : List ℕ) (net : nets.NetworkState) (client : List (Option Entry)) (n place : ℕ) (quiesced : Bool) (node : Planning)
    → Stands w ids nodes clocks net client → AllPairs (λ x y. x ≢ y) ids → slice_get ids place ≡ Some n → node.now ≡ marked (w.facts n) quiesced
    → Stands (after_step w (marking n quiesced)) ids (set nodes place node) clocks net client
stands_marked w ids nodes clocks net client n place true node h distinct there now = record {
  declared = h.declared;
  facts = set_image (λ (x : Planning). x.now) w.facts (changed_at w.facts n (marked (w.facts n) true)) n ids nodes place node distinct there (at_another w.facts n (marked (w.facts n) true)) h.facts (now ∙ sym (at_itself w.facts n (marked (w.facts n) true)));
  times = h.times;
  network = h.network;
  tables = h.tables;
}
stands_marked w ids nodes clocks net client n place false node h distinct there now = record {
  declared = h.declared;
  facts = set_image (λ (x : Planning). x.now) w.facts (changed_at w.facts n (marked (w.facts n) false)) n ids nodes place node distinct there (at_another w.facts n (marked (w.facts n) false)) h.facts (now ∙ sym (at_itself w.facts n (marked (w.facts n) false)));
  times = h.times;
  network = h.network;
  tables = h.tables;
}

-- ---- events of which lines are told, and nothing else

pub record TellsOnly (r : RunSoFar) (e : Event) (ms : List Line) : Type 0 where
  pub due : ms ≡ next_lines r e
  pub only : OnlyLands r e None
  pub proper : IsProperEvent e

tells_by : (r : RunSoFar) (e e' : Event) (ms : List Line) → e ≡ e' → TellsOnly r e' ms
    → TellsOnly r e ms
tells_by r e e' ms is h = subst (λ (x : Event). TellsOnly r x ms) (sym is) h

pub hash_tells : (r : RunSoFar) (e : Event) (d : List ℕ) (p : ℕ) → e ≡ event.Hash d → p ≡ partition_of d → TellsOnly r e (line.Hash d p ∷ [])
unfolding next_lines
hash_tells r e d p is same = tells_by r e (event.Hash d) (line.Hash d p ∷ []) is (record { due = ap (λ q. line.Hash d q ∷ []) same; only = hash_only r d; proper = tt })

pub place_tells : (r : RunSoFar) (e : Event) (p : ℕ) (l : Line) → e ≡ event.Place p → l ∷ [] ≡ due_place (standing r) p → TellsOnly r e (l ∷ [])
unfolding next_lines
place_tells r e p l is made = tells_by r e (event.Place p) (l ∷ []) is (record { due = made; only = place_only r p; proper = tt })

pub show_tells : (r : RunSoFar) (e : Event) (n : ℕ) (d : List ℕ) (l : Line) (f : Facts) → e ≡ event.Show n d → f ≡ (standing r).facts n → ((standing r).facts n).me ≡ n → l ≡ line.Holds n d (finite.get f.store.content d)
    → TellsOnly r e (l ∷ [])
unfolding next_lines
show_tells r e n d l f is here me made = tells_by r e (event.Show n d) (l ∷ []) is (record {
  due = ap (λ (x : Line). x ∷ []) (made ∙ ap₂ (λ m (g : Facts). line.Holds m d (finite.get g.store.content d)) (sym me) here);
  only = show_only r n d;
  proper = tt;
})

pub calmed_tells : (r : RunSoFar) (e : Event) (rounds : ℕ) → e ≡ event.Calmed rounds → TellsOnly r e (line.Calm rounds ∷ [])
unfolding next_lines
calmed_tells r e rounds is = tells_by r e (event.Calmed rounds) (line.Calm rounds ∷ []) is (record { due = refl; only = calmed_only r rounds; proper = tt })

pub map_tells : (r : RunSoFar) (e : Event) (n from to : ℕ) (ls : List Line) (f : Facts) → e ≡ event.Map n from to → f ≡ (standing r).facts n → ls ≡ (due_map f from to).lines → TellsOnly r e ls
unfolding next_lines
map_tells r e n from to ls f is here made = tells_by r e (event.Map n from to) ls is (record {
  due = made ∙ ap (λ (g : Facts). (due_map g from to).lines) here ∙ sym (append-nil (due_map ((standing r).facts n) from to).lines);
  only = map_only r n from to;
  proper = tt;
})

pub tick_tells : (r : RunSoFar) (e : Event) (n : ℕ) → e ≡ event.Tick n → IsId n → ((standing r).facts n).me ≡ n → is_up (standing r) n ≡ false → TellsOnly r e (line.Down n ∷ [])
tick_tells r e n is id me down = tells_by r e (event.Tick n) (line.Down n ∷ []) is (record { due = tick_down r n me down; only = tick_only r n down; proper = id })

pub stop_tells : (r : RunSoFar) (e : Event) (n : ℕ) → e ≡ event.Stop n → ((standing r).facts n).me ≡ n → is_up (standing r) n ≡ false → TellsOnly r e (line.Down n ∷ [])
stop_tells r e n is me down = tells_by r e (event.Stop n) (line.Down n ∷ []) is (record { due = stop_down r n me down; only = stop_only r n down; proper = tt })

pub start_tells : (r : RunSoFar) (e : Event) (n : ℕ) → e ≡ event.Start n → ((standing r).facts n).me ≡ n → is_up (standing r) n ≡ true → TellsOnly r e (line.Up n ∷ [])
start_tells r e n is me up = tells_by r e (event.Start n) (line.Up n ∷ []) is (record { due = start_up r n me up; only = start_only r n up; proper = tt })

-- ---- groups and clocks and marks, as they come

pub clock_due : (r : RunSoFar) (e : Event) (n time : ℕ) → e ≡ event.Clock n time → line.Clock n time ∷ [] ≡ next_lines r e
unfolding next_lines
clock_due r e n time is = subst (λ (x : Event). line.Clock n time ∷ [] ≡ next_lines r x) (sym is) refl

pub groups_due : (r : RunSoFar) (e : Event) (groups : List (List ℕ)) → e ≡ event.Groups groups → line.Groups groups ∷ [] ≡ next_lines r e
unfolding next_lines
groups_due r e groups is = subst (λ (x : Event). line.Groups groups ∷ [] ≡ next_lines r x) (sym is) refl

pub lose_due : (r : RunSoFar) (e : Event) (i : ℕ) (l : Line) → e ≡ event.Lose i → l ∷ [] ≡ losing i (flying_at (standing r).network i) → l ∷ [] ≡ next_lines r e
unfolding next_lines
lose_due r e i l is made = subst (λ (x : Event). l ∷ [] ≡ next_lines r x) (sym is) made

pub lose_lands : (r : RunSoFar) (e : Event) (i : ℕ) → e ≡ event.Lose i → OnlyLands r e (Some i)
lose_lands r e i is = subst (λ (x : Event). OnlyLands r x (Some i)) (sym is) (lose_only r i)

pub lose_proper : (e : Event) (i : ℕ) → e ≡ event.Lose i → IsProperEvent e
lose_proper e i is = subst IsProperEvent (sym is) tt

-- the line of a loss, of the message that the network has
pub lost_line : (net : nets.NetworkState) (n : Network) (i : ℕ) (m : Flying) → IsNetwork net n → Some m ≡ nets.flying_message i net.flying → line.Lost i ∷ [] ≡ losing i (flying_at n i)
lost_line net n i m h e = sym
    (ap (losing i) (found net n i h ∙ ap (option_map flying_posting) (sym e)))

pub no_lost_line : (net : nets.NetworkState) (n : Network) (i : ℕ) → IsNetwork net n → None ≡ nets.flying_message i net.flying → line.NoMessage i ∷ [] ≡ losing i (flying_at n i)
no_lost_line net n i h e = sym (ap (losing i) (found net n i h ∙ ap (option_map flying_posting) (sym e)))

-- ---- events that do nothing

pub nothing_told : (r : RunSoFar) (e : Event) (ms : List Line) → DoesNothing e → ms ≡ [] → TellsOnly r e ms
unfolding next_lines
nothing_told r (event.ProxyGet n d) ms h is = record { due = is; only = record { lands = refl; only = refl }; proper = tt }
nothing_told r (event.ProxyPut n d v) ms h is = record { due = is; only = record { lands = refl; only = refl }; proper = tt }
nothing_told r (event.ProxyDel n d) ms h is = record { due = is; only = record { lands = refl; only = refl }; proper = tt }
nothing_told r (event.ProxyAgain n) ms h is = record { due = is; only = record { lands = refl; only = refl }; proper = tt }
nothing_told r (event.CallGet d) ms h is = record { due = is; only = record { lands = refl; only = refl }; proper = tt }
nothing_told r (event.CallPut d v) ms h is = record { due = is; only = record { lands = refl; only = refl }; proper = tt }
nothing_told r (event.CallDel d) ms h is = record { due = is; only = record { lands = refl; only = refl }; proper = tt }
nothing_told r (event.CallAgain q) ms h is = record { due = is; only = record { lands = refl; only = refl }; proper = tt }
nothing_told r (event.Scan p) ms h is = record { due = is; only = record { lands = refl; only = refl }; proper = tt }
nothing_told r (event.ScanNext s) ms h is = record { due = is; only = record { lands = refl; only = refl }; proper = tt }
nothing_told r e ms h is = absurd h
