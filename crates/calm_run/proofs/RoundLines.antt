-- A round of a world that isn't calm writes a line: where a node is up its tick does, and where none is, the delivery of a
-- message in flight.
use Rattle.std.proofs.Common.{◌≡◌, ℕ, suc, ◌<◌, Bool, true, false, ◌&&◌, cond, List, [], ◌∷◌, ◌++◌, map, filter, length, Option, Some, None, refl, sym, ap, subst, ◌∙◌, arith}
use Rattle.std.specs.Prelude.{nat_lt, if◌then◌else◌}
use Rattle.std.specs.List.{list_all}
use Rattle.partition_lists.proofs.InOrderLaws.{Has, has_filter, has_in_order}
use Rattle.journal_lines.specs.declared.line.Line.{Line}
use Rattle.journal_lines.specs.declared.line.Line.TheVariants as line
use Rattle.node_rules.specs.Copies.{is_nil}
use Rattle.node_rules.specs.Effects.{Effects, lines_only}
use Rattle.node_rules.specs.Facts.{Facts}
use Rattle.node_rules.specs.Tick.{tick_of, parts, parts_in_order}
use Rattle.journal_readings.specs.Messages.{Posting}
use Rattle.cluster_rules.specs.declared.event.Event.{Event}
use Rattle.cluster_rules.specs.declared.event.Event.TheVariants as event
use Rattle.node_rules.specs.Standing.{is_at_rest_of}
use Rattle.cluster_rules.specs.Calm.{share_view, is_group_at_rest, is_calm_of}
use Rattle.cluster_rules.specs.DueEvents.{arriving, due_of, delivery, is_blocked, sent_lines}
use Rattle.cluster_rules.specs.Network.{flying_at, landed}
use Rattle.cluster_rules.specs.Steps.{Played, then_played, play, play_all, all_lines, flow, flows, round}
use Rattle.cluster_rules.specs.World.{World, is_up, up_nodes}

-- there is a line
record HasLine (ls : List Line) : Type 0 where
  first : Line
  others : List Line
  is : ls ≡ first ∷ others

-- and behind it there may be more
writes_more : (ls ms : List Line) → HasLine ls → HasLine (ls ++ ms)
writes_more ls ms h = record { first = h.first; others = h.others ++ ms; is = ap (λ (xs : List Line). xs ++ ms) h.is }

-- ---- two events

-- a tick has a line, also where the node is down
tick_if_writes : (n : ℕ) (f : Facts) (b : Bool) → HasLine (if b then parts_in_order (parts n) f else lines_only (line.Down f.me ∷ [])).lines
tick_if_writes n f true = record { first = _; others = _; is = refl }
tick_if_writes n f false = record { first = _; others = _; is = refl }

tick_writes : (n : ℕ) (w : World) (m : ℕ) → HasLine (due_of n w (event.Tick m))
tick_writes n w m =
    let e : Effects = tick_of n (w.facts m) in
    writes_more e.lines (sent_lines m (length w.network.sent) (length w.network.flying) e.sends) (tick_if_writes n (w.facts m) (w.facts m).up)

-- and so has a delivery, also where there is no message of that number
deliver_writes : (n : ℕ) (w : World) (i : ℕ) → HasLine (due_of n w (event.Deliver i))
deliver_writes n w i =
    go (λ (p : Posting). line.Deliver i p.from p.to ∷ arriving n w (landed w.network i) p) (λ p. record { first = _; others = _; is = refl }) (flying_at w.network i)
  where
    blocked : (lines : Posting → List Line) (p : Posting) (b : Bool) → HasLine (lines p) → HasLine (if b then line.Blocked i ∷ [] else lines p)
    blocked lines p true h = record { first = _; others = _; is = refl }
    blocked lines p false h = h

    go : (lines : Posting → List Line) → ((p : Posting) → HasLine (lines p)) → (o : Option Posting) → HasLine (delivery w i lines o)
    go lines h None = record { first = _; others = _; is = refl }
    go lines h (Some p) = blocked lines p (is_blocked w p) (h p)

-- ---- a round

-- what is played writes a line if its first event does
events_write : (n : ℕ) (w : World) (e : Event) (es : List Event) (tail : World → Played) → HasLine (due_of n w e) → HasLine (all_lines (then_played (play_all n (e ∷ es) w) tail).steps)
events_write n w e es tail h =
    writes_more (due_of n w e) (all_lines ((play_all n es (play n e w).world).steps ++ (tail (play_all n es (play n e w).world).world).steps)) h

-- nobody is up
record IsNobodyUp (w : World) : Type 0 where
  down : (m : ℕ) → is_up w m ≡ false

none_up : (w : World) (ns : List ℕ) → IsNobodyUp w → filter (is_up w) ns ≡ []
none_up w [] h = refl
none_up w (m ∷ ns) h = ap (λ b. cond b (m ∷ filter (is_up w) ns) (filter (is_up w) ns)) (h.down m) ∙ none_up w ns h

rests_alone : (n : ℕ) (w : World) (group : List ℕ) → IsNobodyUp w → is_group_at_rest n w group ≡ true
rests_alone n w group h = ap (λ (ups : List ℕ). share_view w ups && list_all (λ m. is_at_rest_of n (w.facts m)) ups) (none_up w group h)

all_rest : (n : ℕ) (w : World) (groups : List (List ℕ)) → IsNobodyUp w → list_all (is_group_at_rest n w) groups ≡ true
all_rest n w [] h = refl
all_rest n w (group ∷ groups) h = ap (λ b. b && list_all (is_group_at_rest n w) groups) (rests_alone n w group h) ∙ all_rest n w groups h

-- where no declared node is up and only declared ones are, nobody is
nobody_up : (w : World) → ((m : ℕ) → is_up w m ≡ true → Has w.nodes m) → up_nodes w ≡ [] → IsNobodyUp w
nobody_up w known none = record { down = λ m. go m (is_up w m) refl }
  where
    go : (m : ℕ) (b : Bool) → is_up w m ≡ b → is_up w m ≡ false
    go m true e = absurd (subst (λ (ns : List ℕ). Has ns m) none (has_in_order nat_lt (filter (is_up w) w.nodes) m (has_filter (is_up w) w.nodes m (known m e) e)))
    go m false e = e

-- a world in which nobody is up and nothing is in flight is calm
still_calm : (n : ℕ) (w : World) → IsNobodyUp w → w.network.flying ≡ [] → is_calm_of n w ≡ true
still_calm n w h e = ap (λ (is : List ℕ). list_all (is_group_at_rest n w) w.network.groups && is_nil is) e ∙ ap (λ b. b && true) (all_rest n w w.network.groups h)

flow_writes : (n : ℕ) (w : World) (tail : World → Played) (flying : List ℕ) → w.network.flying ≡ flying → (flying ≡ [] → ⊥)
    → HasLine (all_lines (then_played (flow n w) tail).steps)
flow_writes n w tail [] e some = absurd (some refl)
flow_writes n w tail (i ∷ flying) e some =
    subst (λ (is : List ℕ). HasLine (all_lines (then_played (play_all n (map event.Deliver is) w) tail).steps)) (sym e)
    (events_write n w (event.Deliver i) (map event.Deliver flying) tail (deliver_writes n w i))

-- a round of a world that isn't calm has a line
round_has_line : (n : ℕ) (w : World) → ((m : ℕ) → is_up w m ≡ true → Has w.nodes m) → is_calm_of n w ≡ false → HasLine (all_lines (round n w).steps)
round_has_line n w known uneasy = go (up_nodes w) refl
  where
    differ : (b : Bool) → b ≡ true → b ≡ false → ⊥
    differ b is not_so = cc

    go : (ups : List ℕ) → up_nodes w ≡ ups → HasLine (all_lines (round n w).steps)
    go [] e =
        subst (λ (ns : List ℕ). HasLine (all_lines (then_played (play_all n (map event.Tick ns) w) (flows n 4)).steps)) (sym e)
        (flow_writes n w (flows n 3) w.network.flying refl (λ none. differ (is_calm_of n w) (still_calm n w (nobody_up w known e) none) uneasy))
    go (m ∷ ups) e =
        subst (λ (ns : List ℕ). HasLine (all_lines (then_played (play_all n (map event.Tick ns) w) (flows n 4)).steps)) (sym e)
        (events_write n w (event.Tick m) (map event.Tick ups) (flows n 4) (tick_writes n w m))

pub round_writes : (n : ℕ) (w : World) → ((m : ℕ) → is_up w m ≡ true → Has w.nodes m) → is_calm_of n w ≡ false → 0 < length (all_lines (round n w).steps)
round_writes n w known uneasy = let h = round_has_line n w known uneasy in long (all_lines (round n w).steps) h.first h.others h.is
  where
    long : (ls : List Line) (l : Line) (rest : List Line) → ls ≡ l ∷ rest → 0 < length ls
    long ls l rest e = let count : length ls ≡ suc (length rest) = ap length e in omega (arith, count)
