-- The steps of commands that name declared nodes alone are allowed.
use Rattle.std.proofs.Common.{◌≡◌, ℕ, zero, suc, ◌==◌, Bool, true, false, ◌&&◌, ◌||◌, List, [], ◌∷◌, ◌++◌, Option, Some, None, refl, sym, ap, subst, ◌∙◌, cond, if◌then◌else◌, arith}
use Rattle.std.proofs.lemmas.Bool.Decides.{nat_tests}
use Rattle.std.specs.Prelude.{map, filter, nat_lt, option_and_then}
use Rattle.std.specs.List.{list_all}
use Rattle.std.proofs.lemmas.Bool.{or_right as or_true}
use Rattle.cluster_types.proofs.BoolFacts.{and_left, and_right}
use Rattle.partition_lists.specs.Lists.{in_order, put_in_order}
use Rattle.wire_messages.specs.declared.message.Message.{Message}
use Rattle.wire_messages.specs.declared.message.Message.TheVariants as message
use Rattle.wire_messages.specs.Decoding.{message_of}
use Rattle.script_lang.specs.declared.script.Command.{Command}
use Rattle.script_lang.specs.declared.script.Command.TheVariants as command
use Rattle.journal_lines.specs.declared.line.Line.{Line}
use Rattle.journal_lines.specs.declared.line.Line.TheVariants as line
use Rattle.node_rules.specs.Messages.{client}
use Rattle.cluster_rules.specs.declared.event.Event.{Event}
use Rattle.cluster_rules.specs.declared.event.Event.TheVariants as event
use Rattle.cluster_rules.specs.Allowed.{may_come, AreAllowed, is_playable}
use Rattle.journal_readings.specs.Lines.{has_node}
use Rattle.cluster_rules.specs.Marks.{Mark, Begins, Writes, event_begun, after_line, after_all, came, came_to_client, sent_by, came_to_node}
use Rattle.journal_readings.specs.Messages.{Arrival, arrived, arrived_cut}
use Rattle.cluster_rules.specs.Network.{posting_at, posting}
use Rattle.cluster_rules.specs.Runs.{ComesToCalm, calming, Plays, PlaysAll}
use Rattle.cluster_rules.specs.Steps.{Step, marks_of, all_marks, AreDue, Played, then_played, play, play_all, flow, flows, round, rounds}
use Rattle.cluster_rules.specs.World.{World, is_up, up_nodes}
use Rattle.cluster_rules.proofs.MarkLaws.{Follows, after_all-append, all, one, flow_follows, round_follows, rounds_follow}
use Rattle.cluster_rules.proofs.RunLaws.{command_follows}

-- ---- the declared nodes stay

came_nodes : (w : World) (x : Option Arrival) → (came w x).nodes ≡ w.nodes
came_nodes w None = refl
came_nodes w (Some x) = go (x.to == client)
  where
    at_client : (m : Message) → (came_to_client w m).nodes ≡ w.nodes
    at_client (message.MapTable t) = refl
    at_client m = refl

    go : (b : Bool) → (if b then came_to_client w x.message else came_to_node w x).nodes ≡ w.nodes
    go true = at_client x.message
    go false = refl

sent_nodes : (w : World) (a b : ℕ) (m : Option Message) → (sent_by w a b m).nodes ≡ w.nodes
sent_nodes w a b None = refl
sent_nodes w a b (Some m) = refl

line_nodes : (w : World) (l : Line) → (after_line w l).nodes ≡ w.nodes
line_nodes w (line.Deliver i a b) = came_nodes w (option_and_then (arrived b) (posting_at w.network i))
line_nodes w (line.Repeat i a b) = came_nodes w (option_and_then (arrived b) (posting_at w.network i))
line_nodes w (line.Cut i a b size) = came_nodes w (option_and_then (arrived_cut b size) (posting_at w.network i))
line_nodes w (line.Sent i a b bytes) = sent_nodes (record w { network = posting w.network i (record { from = a; to = b; bytes = bytes }) }) a b (message_of bytes)
line_nodes w l = refl

pub nodes_stay : (ms : List Mark) (w : World) → (after_all w ms).nodes ≡ w.nodes
nodes_stay [] w = refl
nodes_stay (Begins e ∷ ms) w = nodes_stay ms (event_begun w e)
nodes_stay (Writes l ∷ ms) w = nodes_stay ms (after_line w l) ∙ line_nodes w l

pub stay : (n : ℕ) (w : World) (x : Played) → Follows n w x → x.world.nodes ≡ w.nodes
stay n w x h = ap (λ (v : World). v.nodes) (sym h.leads) ∙ nodes_stay (all_marks x.steps) w

-- ---- up nodes are declared

-- each of these is one of the nodes
abbrev AreAmong : List ℕ → List ℕ → Type 0
AreAmong ns [] = Unit {0}
AreAmong ns (m ∷ ms) = (has_node ns m ≡ true) × AreAmong ns ms

one_more : (n : ℕ) (ns ms : List ℕ) → AreAmong ns ms → AreAmong (n ∷ ns) ms
one_more n ns [] h = tt
one_more n ns (m ∷ ms) h = (or_true (n == m) _ h.0, one_more n ns ms h.1)

itself : (n : ℕ) → (n == n) ≡ true
itself n = grind (arith, nat_tests)

each_among : (ns : List ℕ) → AreAmong ns ns
each_among [] = tt
each_among (n ∷ ns) = (ap (λ b. b || has_node ns n) (itself n), one_more n ns ns (each_among ns))

filtered : (ns : List ℕ) (test : ℕ → Bool) (ms : List ℕ) → AreAmong ns ms → AreAmong ns (filter test ms)
filtered ns test [] h = tt
filtered ns test (m ∷ ms) h = go (test m) (filtered ns test ms h.1)
  where
    go : (b : Bool) → AreAmong ns (filter test ms) → AreAmong ns (cond b (m ∷ filter test ms) (filter test ms))
    go true rest = (h.0, rest)
    go false rest = rest

put_among : (ns : List ℕ) (x : ℕ) (ms : List ℕ) → has_node ns x ≡ true → AreAmong ns ms → AreAmong ns (put_in_order nat_lt x ms)
put_among ns x [] i h = (i, tt)
put_among ns x (m ∷ ms) i h = go (nat_lt m x) (put_among ns x ms i h.1)
  where
    go : (b : Bool) → AreAmong ns (put_in_order nat_lt x ms) → AreAmong ns (if b then m ∷ put_in_order nat_lt x ms else (x ∷ m ∷ ms))
    go true rest = (h.0, rest)
    go false rest = (i, h)

ordered : (ns ms : List ℕ) → AreAmong ns ms → AreAmong ns (in_order nat_lt ms)
ordered ns [] h = tt
ordered ns (m ∷ ms) h = put_among ns m (in_order nat_lt ms) h.0 (ordered ns ms h.1)

ups_among : (w : World) → AreAmong w.nodes (up_nodes w)
ups_among w = ordered w.nodes (filter (is_up w) w.nodes) (filtered w.nodes (is_up w) w.nodes (each_among w.nodes))

-- ---- what is played

pub allowed_append : (n : ℕ) (ss ts : List Step) (w : World) → AreAllowed n w ss → AreAllowed n (after_all w (all_marks ss)) ts → AreAllowed n w (ss ++ ts)
allowed_append n [] ts w h i = i
allowed_append n (s ∷ ss) ts w h i =
    (h.0, allowed_append n ss ts (after_all w (marks_of s)) h.1 (subst (λ (v : World). AreAllowed n v ts) (after_all-append w (marks_of s) (all_marks ss)) i))

in_turn : (n : ℕ) (w : World) (x : Played) (next : World → Played) → Follows n w x → AreAllowed n w x.steps → AreAllowed n x.world (next x.world).steps → AreAllowed n w (then_played x next).steps
in_turn n w x next f h i = allowed_append n x.steps (next x.world).steps w h (subst (λ (v : World). AreAllowed n v (next x.world).steps) (sym f.leads) i)

event_allowed : (n : ℕ) (w : World) (e : Event) → may_come n w e ≡ true → AreAllowed n w (play n e w).steps
event_allowed n w e h = (record { comes = h; due = refl }, tt)

-- events that may come wherever these nodes are declared
abbrev MayAllCome : ℕ → List ℕ → List Event → Type 0
MayAllCome n ns [] = Unit {0}
MayAllCome n ns (e ∷ es) = ((v : World) → v.nodes ≡ ns → may_come n v e ≡ true) × MayAllCome n ns es

all_allowed : (n : ℕ) (ns : List ℕ) (es : List Event) (w : World) → w.nodes ≡ ns → MayAllCome n ns es → AreAllowed n w (play_all n es w).steps
all_allowed n ns [] w same h = tt
all_allowed n ns (e ∷ es) w same h =
    in_turn n w (play n e w) (play_all n es) (one n e w) (event_allowed n w e (h.0 w same))
    (all_allowed n ns es (play n e w).world (stay n w (play n e w) (one n e w) ∙ same) h.1)

deliveries : (n : ℕ) (ns is : List ℕ) → MayAllCome n ns (map event.Deliver is)
deliveries n ns [] = tt
deliveries n ns (i ∷ is) = (λ v same. refl, deliveries n ns is)

tick_may : (n m : ℕ) (ns : List ℕ) → has_node ns m ≡ true → (v : World) → v.nodes ≡ ns → may_come n v (event.Tick m) ≡ true
tick_may n m ns h v same = ap (λ ms. ((has_node ms m && true) && true) && true) same ∙ ap (λ b. ((b && true) && true) && true) h

ticks : (n : ℕ) (ns ms : List ℕ) → AreAmong ns ms → MayAllCome n ns (map event.Tick ms)
ticks n ns [] h = tt
ticks n ns (m ∷ ms) h = (tick_may n m ns h.0, ticks n ns ms h.1)

flow_allowed : (n : ℕ) (w : World) → AreAllowed n w (flow n w).steps
flow_allowed n w = all_allowed n w.nodes (map event.Deliver w.network.flying) w refl (deliveries n w.nodes w.network.flying)

flows_allowed : (n k : ℕ) (w : World) → AreAllowed n w (flows n k w).steps
flows_allowed n zero w = tt
flows_allowed n (suc k) w = in_turn n w (flow n w) (flows n k) (flow_follows n w) (flow_allowed n w) (flows_allowed n k (flow n w).world)

round_allowed : (n : ℕ) (w : World) → AreAllowed n w (round n w).steps
round_allowed n w =
    in_turn n w (play_all n (map event.Tick (up_nodes w)) w) (flows n 4) (all n (map event.Tick (up_nodes w)) w)
    (all_allowed n w.nodes (map event.Tick (up_nodes w)) w refl (ticks n w.nodes (up_nodes w) (ups_among w)))
    (flows_allowed n 4 (play_all n (map event.Tick (up_nodes w)) w).world)

pub rounds_allowed : (n k : ℕ) (w : World) → AreAllowed n w (rounds n k w).steps
unfolding rounds
rounds_allowed n zero w = tt
rounds_allowed n (suc k) w = in_turn n w (round n w) (rounds n k) (round_follows n w) (round_allowed n w) (rounds_allowed n k (round n w).world)

calming_allowed : (n k : ℕ) (w : World) → ComesToCalm n w k → AreAllowed n w (calming n k w).steps
calming_allowed n k w h =
    in_turn n w (rounds n k w) (play n (event.Calmed k)) (rounds_follow n k w) (rounds_allowed n k w) (event_allowed n (rounds n k w).world (event.Calmed k) h.calm)

-- ---- commands

and_true : (b : Bool) → b ≡ true → (b && true) ≡ true
and_true true e = refl
and_true false e = e

pub by_same : (n : ℕ) (w : World) (x y : Played) → x ≡ y → AreAllowed n w y.steps → AreAllowed n w x.steps
by_same n w x y e h = subst (λ (p : Played). AreAllowed n w p.steps) (sym e) h

by_event : (n : ℕ) (w : World) (e : Event) (x : Played) → may_come n w e ≡ true → x ≡ play n e w → AreAllowed n w x.steps
by_event n w e x may h = by_same n w x (play n e w) h (event_allowed n w e may)

pub command_allowed : (n : ℕ) (w : World) (c : Command) (x : Played) → is_playable w.nodes c ≡ true → Plays n w c x → AreAllowed n w x.steps
command_allowed n w command.Flow x e h = by_same n w x (flow n w) h (flow_allowed n w)
command_allowed n w command.Round x e h = by_same n w x (round n w) h (round_allowed n w)
command_allowed n w command.Calm x e h = by_same n w x (calming n h.number w) h.played (calming_allowed n h.number w h.reached)
command_allowed n w c x e h = by_event n w _ x (and_true _ e) h

commands_allowed_in : (n : ℕ) (ns : List ℕ) (cs : List Command) (w : World) (x : Played) → w.nodes ≡ ns → list_all (is_playable ns) cs ≡ true → PlaysAll n w cs x → AreAllowed n w x.steps
commands_allowed_in n ns [] w x same e h = by_same n w x _ h tt
commands_allowed_in n ns (c ∷ cs) w x same e h =
    by_same n w x (then_played h.first (λ v. h.others)) h.whole
    (in_turn n w h.first (λ v. h.others) first
    (command_allowed n w c h.first (ap (λ ms. is_playable ms c) same ∙ and_left (is_playable ns c) _ e) h.plays)
    (commands_allowed_in n ns cs h.first.world h.others (stay n w h.first first ∙ same) (and_right (is_playable ns c) _ e) h.follows))
  where
    first : Follows n w h.first
    first = command_follows n w c h.first h.plays

pub commands_allowed : (n : ℕ) (cs : List Command) (w : World) (x : Played) → list_all (is_playable w.nodes) cs ≡ true → PlaysAll n w cs x → AreAllowed n w x.steps
commands_allowed n cs w x e h = commands_allowed_in n w.nodes cs w x refl e h

pub allowed_due : (n : ℕ) (ss : List Step) (w : World) → AreAllowed n w ss → AreDue n w ss
allowed_due n [] w h = tt
allowed_due n (s ∷ ss) w h = (h.0.due, allowed_due n ss (after_all w (marks_of s)) h.1)
