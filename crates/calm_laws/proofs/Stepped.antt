-- What a tick and a delivery make of the world: one act of one node, if any.
use Rattle.std.proofs.Common.{◌≡◌, ℕ, ◌==◌, Bool, true, false, List, ◌∷◌, ◌++◌, map, length, Option, Some, None, refl, sym, ap, subst, ◌∙◌, append-nil}
use Rattle.std.specs.List.{list_any}
use Rattle.std.specs.Prelude.{option_and_then, option_map, nat_lt, [], if◌then◌else◌, slice_get, ◌-◌}
use Rattle.conflict_order.specs.declared.want.Want.{Want}
use Rattle.cluster_types.specs.Distinct.{without}
use Rattle.wire_messages.specs.declared.message.Message.{Message}
use Rattle.wire_messages.specs.declared.message.Message.TheVariants as message
use Rattle.wire_messages.specs.Decoding.{message_of}
use Rattle.journal_lines.specs.declared.line.Line.{Line}
use Rattle.journal_lines.specs.declared.line.Line.TheVariants as line
use Rattle.partition_lists.proofs.InOrderLaws.{equal}
use Rattle.node_rules.specs.Effects.{Effects}
use Rattle.node_rules.specs.Facts.{Facts}
use Rattle.node_rules.specs.Messages.{due_message_of, client}
use Rattle.node_rules.specs.Notes.{noted, reached}
use Rattle.node_rules.specs.Tick.{tick_of}
use Rattle.cluster_rules.specs.declared.event.Event.TheVariants as event
use Rattle.cluster_rules.specs.CalmBound.{is_full_line}
use Rattle.cluster_rules.specs.DueEvents.{written, due_of, due_at_client, due_arrival, arriving, is_blocked, delivery}
use Rattle.cluster_rules.specs.Marks.{Writes, event_begun, after_all, came, came_to_client, came_to_node}
use Rattle.journal_readings.specs.Messages.{Posting, arrived}
use Rattle.cluster_rules.specs.Network.{Network, posting_at, flying_at, landed}
use Rattle.cluster_rules.specs.Steps.{play}
use Rattle.cluster_rules.specs.World.{World}
use Rattle.cluster_rules.proofs.KeptFacts.{num_same}
use Rattle.cluster_rules.proofs.RequestLaws.{want_of_arrival, want_unread}
use Rattle.cluster_laws.proofs.At.{differ}
use Rattle.calm_laws.specs.Acts.{Input, Ticks, Gets, carried, acted, served}
use Rattle.calm_laws.specs.Letters.{postings, new_numbers, arriving_input, unblocked, input_of, given, given_if, outs}
use Rattle.calm_laws.specs.Flows.{Named}
use Rattle.calm_laws.proofs.Own.{OwnLines, message_own, tick_own}
use Rattle.calm_laws.proofs.Took.{at_itself, at_other, Took, took_written}

-- from a world to the next: what came to a node made it act, and these numbers stayed in flight
pub record Stepped (n : ℕ) (w v : World) (o : Option (ℕ × Input)) (left : List ℕ) : Type 0 where
  pub facts : (m : ℕ) → v.facts m ≡ served n (w.clocks m) (w.facts m) (given m o)
  pub nodes : v.nodes ≡ w.nodes
  pub clocks : v.clocks ≡ w.clocks
  pub groups : v.network.groups ≡ w.network.groups
  pub sent : v.network.sent ≡ w.network.sent ++ outs n w o
  pub flying : v.network.flying ≡ left ++ new_numbers (length w.network.sent) (outs n w o)

-- nothing came to anybody
stepped_idle : (n : ℕ) (w v : World) (left : List ℕ) → v.facts ≡ w.facts → v.nodes ≡ w.nodes → v.clocks ≡ w.clocks → v.network.groups ≡ w.network.groups → v.network.sent ≡ w.network.sent → v.network.flying ≡ left → Stepped n w v None left
stepped_idle n w v left facts nodes clocks groups sent flying = record {
  facts = λ m. ap (λ (f : ℕ → Facts). f m) facts;
  nodes = nodes;
  clocks = clocks;
  groups = groups;
  sent = sent ∙ sym (append-nil w.network.sent);
  flying = flying ∙ sym (append-nil left);
}

-- a node acted, where its facts are these as what came is there
stepped_act : (n : ℕ) (w u v : World) (a : ℕ) (i : Input) (left : List ℕ) → ((m : ℕ) → (a ≡ m → ⊥) → u.facts m ≡ w.facts m) → u.nodes ≡ w.nodes → u.clocks ≡ w.clocks → u.network ≡ record w.network { flying = left }
    → Took u v a (acted n (w.clocks a) (w.facts a) i) (outs n w (Some (a, i))) (new_numbers (length w.network.sent) (outs n w (Some (a, i)))) → Stepped n w v (Some (a, i)) left
stepped_act n w u v a i left others nodes clocks net t = record {
  facts = λ m. go m (a == m) refl;
  nodes = t.nodes ∙ nodes;
  clocks = t.clocks ∙ clocks;
  groups = t.groups ∙ ap (λ (x : Network). x.groups) net;
  sent = t.sent ∙ ap (λ (x : Network). x.sent ++ outs n w (Some (a, i))) net;
  flying = t.flying ∙ ap (λ (x : Network). x.flying ++ new_numbers (length w.network.sent) (outs n w (Some (a, i)))) net;
}
  where
    go : (m : ℕ) (b : Bool) → (a == m) ≡ b → v.facts m ≡ served n (w.clocks m) (w.facts m) (given_if i b)
    go m true e = subst (λ (x : ℕ). v.facts x ≡ acted n (w.clocks x) (w.facts x) i) (num_same a m e) t.here
    go m false e = t.others m (λ s. differ (s_true s) e) ∙ others m (λ s. differ (s_true s) e)
      where
        s_true : a ≡ m → (a == m) ≡ true
        s_true s = equal a m s

-- ---- a tick

pub step_tick : (n : ℕ) (w : World) (a : ℕ) → Named w → list_any is_full_line (due_of n w (event.Tick a)) ≡ false → Stepped n w (play n (event.Tick a) w).world (Some (a, Ticks)) w.network.flying
step_tick n w a named full =
    stepped_act n w (event_begun w (event.Tick a)) (play n (event.Tick a) w).world a Ticks w.network.flying (λ m d. refl) refl refl refl
    (took_written (event_begun w (event.Tick a)) w.network a (tick_of n (w.facts a)) refl (subst (λ (x : ℕ). OwnLines x (tick_of n (w.facts a)).lines) (named a) (tick_own n (w.facts a))) full)

-- ---- a delivery

landed_at : (net : Network) (i : ℕ) → posting_at (landed net i) i ≡ posting_at net i
landed_at net i = go (nat_lt 0 i)
  where
    go : (b : Bool) → (if b then slice_get (landed net i).sent (i - 1) else None) ≡ (if b then slice_get net.sent (i - 1) else None)
    go true = refl
    go false = refl

-- what the client does with a message changes nothing here
client_idle : (n : ℕ) (w b : World) (m : Message) (left : List ℕ) → b.facts ≡ w.facts → b.nodes ≡ w.nodes → b.clocks ≡ w.clocks → b.network ≡ record w.network { flying = left } → Stepped n w (after_all (came_to_client b m) (map Writes (due_at_client m))) None left
client_idle n w b (message.MapTable t) left facts nodes clocks net = stepped_idle n w _ left facts nodes clocks (ap (λ (x : Network). x.groups) net) (ap (λ (x : Network). x.sent) net) (ap (λ (x : Network). x.flying) net)
client_idle n w b m left facts nodes clocks net = stepped_idle n w _ left facts nodes clocks (ap (λ (x : Network). x.groups) net) (ap (λ (x : Network). x.sent) net) (ap (λ (x : Network). x.flying) net)

node_acts : (n : ℕ) (w : World) (i : ℕ) (p : Posting) (m : Message) → posting_at w.network i ≡ Some p → message_of p.bytes ≡ Some m → Named w → list_any is_full_line (written (landed w.network i) p.to (due_message_of n (w.facts p.to) (w.clocks p.to) p.from m)) ≡ false
    → Stepped n w (after_all (came_to_node (event_begun w (event.Deliver i)) (record { from = p.from; to = p.to; message = m })) (map Writes (written (landed w.network i) p.to (due_message_of n (w.facts p.to) (w.clocks p.to) p.from m)))) (Some (p.to, Gets p.from m)) (without w.network.flying i)
node_acts n w i p m stands is named full =
    let a : ℕ = p.to in
    let e : Effects = due_message_of n (w.facts a) (w.clocks a) p.from m in
    let u : World = came_to_node (event_begun w (event.Deliver i)) (record { from = p.from; to = a; message = m }) in
    let v : World = after_all u (map Writes (written (landed w.network i) a e)) in
    let ns : List ℕ = new_numbers (length w.network.sent) (postings a e.sends) in
    let unread : noted u.want (u.facts a) e.lines ≡ noted None (u.facts a) e.lines =
    ap (λ (q : Option Want). noted q (u.facts a) e.lines) (want_of_arrival w i p m stands is) ∙ want_unread n (w.facts a) (u.facts a) (w.clocks a) p.from m in
    let t : Took u v a (carried (u.facts a) e) (postings a e.sends) ns = took_written u (landed w.network i) a e unread (subst (λ (x : ℕ). OwnLines x e.lines) (named a) (message_own n (w.facts a) (w.clocks a) p.from m)) full in
    stepped_act n w u v a (Gets p.from m) (without w.network.flying i)
    (λ x d. at_other w.facts a (reached (w.facts a) p.from m) x d) refl refl refl
    (subst (λ (f : Facts). Took u v a (carried f e) (postings a e.sends) ns) (at_itself w.facts a (reached (w.facts a) p.from m)) t)

pub step_deliver : (n : ℕ) (w : World) (i : ℕ) (p : Posting) → Named w → flying_at w.network i ≡ Some p → posting_at w.network i ≡ Some p → list_any is_full_line (due_of n w (event.Deliver i)) ≡ false
    → Stepped n w (play n (event.Deliver i) w).world (input_of w (Some p)) (without w.network.flying i)
step_deliver n w i p named flies stands full = start (flying_at w.network i) flies full
  where
    b : World
    b = event_begun w (event.Deliver i)

    lines : Posting → List Line
    lines q = line.Deliver i q.from q.to ∷ arriving n w (landed w.network i) q

    idle : Stepped n w b None (without w.network.flying i)
    idle = stepped_idle n w b _ refl refl refl refl refl refl

    at_end : (m : Message) (c : Bool) → message_of p.bytes ≡ Some m → list_any is_full_line (if c then due_at_client m else written (landed w.network i) p.to (due_message_of n (w.facts p.to) (w.clocks p.to) p.from m)) ≡ false
        → Stepped n w (after_all (if c then came_to_client b m else came_to_node b (record { from = p.from; to = p.to; message = m })) (map Writes (if c then due_at_client m else written (landed w.network i) p.to (due_message_of n (w.facts p.to) (w.clocks p.to) p.from m)))) (arriving_input p (Some m) c) (without w.network.flying i)
    at_end m true is f = client_idle n w b m (without w.network.flying i) refl refl refl refl
    at_end m false is f = node_acts n w i p m stands is named f

    arrives : (o : Option Message) → message_of p.bytes ≡ o → list_any is_full_line (due_arrival n w (landed w.network i) p o) ≡ false
        → Stepped n w (after_all (came b (option_map (λ m. record { from = p.from; to = p.to; message = m }) o)) (map Writes (due_arrival n w (landed w.network i) p o))) (arriving_input p o (p.to == client)) (without w.network.flying i)
    arrives None is f = idle
    arrives (Some m) is f = at_end m (p.to == client) is f

    opens : (c : Bool) → list_any is_full_line (if c then line.Blocked i ∷ [] else lines p) ≡ false → Stepped n w (after_all b (map Writes (if c then line.Blocked i ∷ [] else lines p))) (unblocked p c) (without w.network.flying i)
    opens true f = idle
    opens false f =
        subst (λ (o : Option Posting). Stepped n w (after_all (came b (option_and_then (arrived p.to) o)) (map Writes (arriving n w (landed w.network i) p))) (unblocked p false) (without w.network.flying i))
        (sym (landed_at w.network i ∙ stands)) (arrives (message_of p.bytes) refl f)

    start : (o : Option Posting) → o ≡ Some p → list_any is_full_line (delivery w i lines o) ≡ false → Stepped n w (after_all b (map Writes (delivery w i lines o))) (input_of w (Some p)) (without w.network.flying i)
    start o e f =
        subst (λ (x : Option Posting). Stepped n w (after_all b (map Writes (delivery w i lines x))) (input_of w (Some p)) (without w.network.flying i)) (sym e)
        (opens (is_blocked w p) (subst (λ (x : Option Posting). list_any is_full_line (delivery w i lines x) ≡ false) e f))
