-- Only the event that divides the network changes its groups, so no node stands in two of them.
use Rattle.std.proofs.Common.{◌≡◌, ℕ, ◌+◌, ◌==◌, nat_lt, Bool, true, false, List, [], ◌∷◌, ◌++◌, map, length, Option, Some, None, refl, sym, subst, ◌∙◌, append-nil}
use Rattle.std.specs.Prelude.{option_and_then, if◌then◌else◌}
use Rattle.std.specs.List.{concat}
use Rattle.conflict_order.specs.declared.want.Want.{Want}
use Rattle.conflict_order.specs.declared.want.Want.TheVariants as want
use Rattle.cluster_types.specs.Distinct.{AreDistinct}
use Rattle.cluster_types.specs.Partitions.{partition_of}
use Rattle.wire_messages.specs.declared.message.Message.{Message}
use Rattle.wire_messages.specs.declared.message.Message.TheVariants as message
use Rattle.wire_messages.specs.Decoding.{message_of}
use Rattle.journal_lines.specs.declared.line.Line.{Line}
use Rattle.journal_lines.specs.declared.line.Line.TheVariants as line
use Rattle.journal_readings.specs.Messages.{Posting, arrived, arrived_cut}
use Rattle.node_rules.specs.Client.{node_for}
use Rattle.node_rules.specs.Effects.{Effects, sends_only, to_one}
use Rattle.node_rules.specs.Facts.{Facts, list_at}
use Rattle.node_rules.specs.Messages.{due_message_of, client}
use Rattle.node_rules.specs.Requests.{due_request, due_start, due_stop, map_refusal, request_refusal}
use Rattle.node_rules.specs.Shows.{due_map, due_show}
use Rattle.node_rules.specs.Tick.{tick_of}
use Rattle.cluster_rules.specs.declared.event.Event.{Event}
use Rattle.cluster_rules.specs.declared.event.Event.TheVariants as event
use Rattle.cluster_rules.specs.DueEvents.{arriving, delivery, due_arrival, due_at_client, due_at_named, due_at_node, due_of, is_blocked, losing, sent_lines, written}
use Rattle.cluster_rules.specs.Marks.{Begins, Writes, after_all, after_line, event_begun}
use Rattle.cluster_rules.specs.Network.{Network, flying_at, has_place, landed, posting, posting_at}
use Rattle.cluster_rules.specs.Opening.{Header, declared_nodes}
use Rattle.cluster_rules.specs.Steps.{AreDue, Step, all_marks, marks_of, play}
use Rattle.cluster_rules.specs.World.{World, opened}
use Rattle.cluster_rules.proofs.MarkLaws.{after_all-append}
use Rattle.run_laws.specs.Taken.{IsProperEvent}
use Rattle.run_laws.proofs.EventRanges.{AllProper}
use Rattle.calm_laws.proofs.Own.{message_own, tick_own}
use Rattle.calm_laws.proofs.Reached.{Unsent, map_unsent, own_unsent, request_unsent, start_unsent, stop_unsent}
use Rattle.calm_laws.proofs.Shrinking.{begun_groups, came_groups, sent_groups}

-- ---- lines

abbrev Undivided : List Line → Type 0
Undivided [] = Unit {0}
Undivided (line.Groups groups ∷ ls) = ⊥
Undivided (_ ∷ ls) = Undivided ls

unsent_undivided : (ls ms : List Line) → Unsent ls → Undivided ms → Undivided (ls ++ ms)
unsent_undivided [] ms h i = i
unsent_undivided (line.Sent j a b bytes ∷ ls) ms h i = absurd h
unsent_undivided (line.Groups groups ∷ ls) ms h i = absurd h
unsent_undivided (_ ∷ ls) ms h i = unsent_undivided ls ms h i

sents_undivided : (ms : List (ℕ × Message)) (a s fl : ℕ) → Undivided (sent_lines a s fl ms)
sents_undivided [] a s fl = tt
sents_undivided (m ∷ ms) a s fl = go (has_place fl) (λ k. sents_undivided ms a (s + 1) k)
  where
    go : (b : Bool) → ((k : ℕ) → Undivided (sent_lines a (s + 1) k ms)) → Undivided ((if b then [] else line.Full (s + 1) ∷ []) ++ sent_lines a (s + 1) (if b then fl + 1 else fl) ms)
    go true rest = rest (fl + 1)
    go false rest = rest fl

written_undivided : (net : Network) (a : ℕ) (e : Effects) → Unsent e.lines → Undivided (written net a e)
written_undivided net a e h = unsent_undivided e.lines _ h (sents_undivided e.sends a (length net.sent) (length net.flying))

-- ---- events

at_node_undivided : (w : World) (n : ℕ) (d : List ℕ) (q : Want) → Undivided (due_at_node w n d q)
at_node_undivided w n d q =
    let f : Facts = w.facts n in
    written_undivided w.network n (due_request f (w.clocks n) d q) (request_unsent f (w.clocks n) (list_at f (partition_of d)) d q (request_refusal f (list_at f (partition_of d)) d))

named_undivided : (w : World) (d : List ℕ) (q : Want) (o : Option ℕ) → Undivided (due_at_named w d q o)
named_undivided w d q None = tt
named_undivided w d q (Some n) = at_node_undivided w n d q

client_undivided : (m : Message) → Undivided (due_at_client m)
client_undivided (message.MapTable t) = tt
client_undivided m = tt

arriving_undivided : (n : ℕ) (w : World) (net : Network) (p : Posting) → Undivided (arriving n w net p)
arriving_undivided n w net p = go (message_of p.bytes)
  where
    at_end : (m : Message) (b : Bool) → Undivided (if b then due_at_client m else written net p.to (due_message_of n (w.facts p.to) (w.clocks p.to) p.from m))
    at_end m true = client_undivided m
    at_end m false = written_undivided net p.to (due_message_of n (w.facts p.to) (w.clocks p.to) p.from m) (own_unsent (w.facts p.to).me _ (message_own n (w.facts p.to) (w.clocks p.to) p.from m))

    go : (o : Option Message) → Undivided (due_arrival n w net p o)
    go None = tt
    go (Some m) = at_end m (p.to == client)

cut_undivided : (n : ℕ) (w : World) (net : Network) (p : Posting) (b : Bool) → Undivided (if b then line.Short p.to ∷ [] else arriving n w net p)
cut_undivided n w net p true = tt
cut_undivided n w net p false = arriving_undivided n w net p

delivery_undivided : (w : World) (i : ℕ) (lines : Posting → List Line) → ((p : Posting) → Undivided (lines p)) → (o : Option Posting) → Undivided (delivery w i lines o)
delivery_undivided w i lines h None = tt
delivery_undivided w i lines h (Some p) = go (is_blocked w p)
  where
    go : (b : Bool) → Undivided (if b then line.Blocked i ∷ [] else lines p)
    go true = tt
    go false = h p

lose_undivided : (i : ℕ) (o : Option Posting) → Undivided (losing i o)
lose_undivided i None = tt
lose_undivided i (Some p) = tt

abbrev Whole : Event → Type 0
Whole (event.Groups groups) = ⊥
Whole e = Unit {0}

due_undivided : (n : ℕ) (w : World) (e : Event) → Whole e → Undivided (due_of n w e)
due_undivided n w (event.Groups groups) h = absurd h
due_undivided n w (event.Tick node) h = written_undivided w.network node (tick_of n (w.facts node)) (own_unsent (w.facts node).me _ (tick_own n (w.facts node)))
due_undivided n w (event.Stop node) h = written_undivided w.network node (due_stop (w.facts node)) (stop_unsent (w.facts node) (w.facts node).up)
due_undivided n w (event.Start node) h = written_undivided w.network node (due_start (w.facts node)) (start_unsent (w.facts node) (w.facts node).up)
due_undivided n w (event.Put node d v) h = at_node_undivided w node d (want.Put v)
due_undivided n w (event.Get node d) h = at_node_undivided w node d want.Get
due_undivided n w (event.Del node d) h = at_node_undivided w node d want.Del
due_undivided n w (event.ClientPut d v) h = named_undivided w d (want.Put v) (node_for w.tables (partition_of d))
due_undivided n w (event.ClientGet d) h = named_undivided w d want.Get (node_for w.tables (partition_of d))
due_undivided n w (event.ClientDel d) h = named_undivided w d want.Del (node_for w.tables (partition_of d))
due_undivided n w (event.Ask node) h = written_undivided w.network client (sends_only (to_one node message.MapAsk)) tt
due_undivided n w (event.Deliver i) h = delivery_undivided w i _ (λ p. arriving_undivided n w (landed w.network i) p) (flying_at w.network i)
due_undivided n w (event.Repeat i) h = delivery_undivided w i _ (λ p. arriving_undivided n w w.network p) (flying_at w.network i)
due_undivided n w (event.Cut i size) h = delivery_undivided w i _ (λ p. cut_undivided n w (landed w.network i) p (nat_lt size (length p.bytes))) (flying_at w.network i)
due_undivided n w (event.Lose i) h = lose_undivided i (flying_at w.network i)
due_undivided n w (event.Map node from to) h = written_undivided w.network node (due_map (w.facts node) from to) (map_unsent (w.facts node) from to (map_refusal (w.facts node)))
due_undivided n w (event.Show node d) h = written_undivided w.network node (due_show (w.facts node) d) tt
due_undivided n w e h = tt

-- ---- groups

lines_groups : (ls : List Line) (w : World) → Undivided ls → (after_all w (map Writes ls)).network.groups ≡ w.network.groups
lines_groups [] w u = refl
lines_groups (line.Groups groups ∷ ls) w u = absurd u
lines_groups (line.Deliver i a b ∷ ls) w u = lines_groups ls (after_line w (line.Deliver i a b)) u ∙ came_groups w (option_and_then (arrived b) (posting_at w.network i))
lines_groups (line.Repeat i a b ∷ ls) w u = lines_groups ls (after_line w (line.Repeat i a b)) u ∙ came_groups w (option_and_then (arrived b) (posting_at w.network i))
lines_groups (line.Cut i a b size ∷ ls) w u = lines_groups ls (after_line w (line.Cut i a b size)) u ∙ came_groups w (option_and_then (arrived_cut b size) (posting_at w.network i))
lines_groups (line.Sent i a b bytes ∷ ls) w u =
    lines_groups ls (after_line w (line.Sent i a b bytes)) u
    ∙ sent_groups (record w { network = posting w.network i (record { from = a; to = b; bytes = bytes }) }) a b (message_of bytes)
lines_groups (l ∷ ls) w u = lines_groups ls (after_line w l) u

abbrev AreApart : World → Type 0
AreApart w = AreDistinct (concat w.network.groups)

kept_apart : (n : ℕ) (w : World) (e : Event) → Whole e → AreApart w → AreApart (play n e w).world
kept_apart n w e h d = subst (λ (gs : List (List ℕ)). AreDistinct (concat gs)) (sym (lines_groups (due_of n w e) (event_begun w e) (due_undivided n w e h) ∙ begun_groups w e)) d

step_apart : (n : ℕ) (w : World) (e : Event) → IsProperEvent e → AreApart w → AreApart (play n e w).world
step_apart n w (event.Groups groups) h d = h.distinct
step_apart n w e h d = kept_apart n w e tt d

steps_apart : (n : ℕ) (ss : List Step) (w : World) → AreDue n w ss → AllProper ss → AreApart w → AreApart (after_all w (all_marks ss))
steps_apart n [] w due h d = d
steps_apart n (s ∷ ss) w due h d =
    let u : World = after_all w (marks_of s) in
    let one : AreApart u = subst (λ (ls : List Line). AreApart (after_all w (Begins s.event ∷ map Writes ls))) (sym due.0) (step_apart n w s.event h.0 d) in
    subst AreApart (sym (after_all-append w (marks_of s) (all_marks ss))) (steps_apart n ss u due.1 h.1 one)

-- no node stands in two groups behind proper steps
pub apart_behind : (n : ℕ) (h : Header) (ss : List Step) → AreDistinct (declared_nodes h) → AreDue n (opened h) ss → AllProper ss → AreDistinct (concat (after_all (opened h) (all_marks ss)).network.groups)
apart_behind n h ss distinct due proper = steps_apart n ss (opened h) due proper (subst AreDistinct (sym (append-nil (declared_nodes h))) distinct)
