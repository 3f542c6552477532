-- Whom the up nodes hear after rounds in which no message lacks a place.
use Rattle.std.proofs.Common.{◌≡◌, ℕ, ◌==◌, ◌&&◌, not, Bool, true, false, List, [], ◌∷◌, ◌++◌, map, Option, Some, None, refl, sym, ap, subst, ◌∙◌, ◌⊎◌, inl, inr, append-nil, nat_lt}
use Rattle.std.specs.Prelude.{filter}
use Rattle.cluster_types.specs.declared.cluster_key.ClusterKey.{ClusterKey}
use Rattle.cluster_types.specs.declared.member.Role.{Role}
use Rattle.cluster_types.specs.Groups.{apart}
use Rattle.wire_messages.specs.declared.message.Message.{Message}
use Rattle.wire_messages.specs.declared.message.Message.TheVariants as message
use Rattle.wire_messages.specs.Decoding.{message_of}
use Rattle.node_rules.specs.Effects.{to_each}
use Rattle.node_rules.specs.Facts.{Facts, view_key}
use Rattle.node_rules.specs.Hearing.{Heard, aged, heard_ids}
use Rattle.node_rules.specs.Notes.{after_ages}
use Rattle.node_rules.specs.Tables.{Table}
use Rattle.cluster_rules.specs.declared.event.Event.TheVariants as event
use Rattle.cluster_rules.specs.DueEvents.{is_blocked}
use Rattle.journal_readings.specs.Lines.{has_node}
use Rattle.journal_readings.specs.Messages.{Posting}
use Rattle.cluster_rules.specs.Network.{posting_at}
use Rattle.cluster_rules.specs.World.{World, is_up, up_nodes}
use Rattle.partition_lists.specs.Lists.{in_order}
use Rattle.cluster_laws.proofs.At.{differ}
use Rattle.run_laws.specs.Tied.{Among}
use Rattle.node_rules.specs.Messages.{client}
use Rattle.calm_laws.specs.Acts.{Input, Ticks, Gets, as_read, served, outbox, sent_at}
use Rattle.calm_laws.specs.Letters.{letters_from, arriving_input, unblocked, input_of, given, given_if, ins, arriving_at}
use Rattle.calm_laws.specs.Flows.{Base, Flowed, HeardAs, Near, Rounded, Speaks, Ticked, beat_of, inbox, new_heard, ticks_if, beat_entry}
use Rattle.calm_laws.specs.Group.{kind}
use Rattle.calm_laws.proofs.Flow.{among_front, among_either, Open, arrives, Came, came}
use Rattle.calm_laws.proofs.Hears.{hear_all, served_heard, tick_heard, BeatsAre, heard_kept, heard_new, hear_append, beats_are}
use Rattle.calm_laws.proofs.Same.{Same, same_on, served_same}
use Rattle.calm_laws.proofs.Sent.{asks, is_one, AllGets, outbox_none, each_among, among_each, none_among, TickSends, tick_sends}

-- ---- what a flow brings is messages

gets_given : (m : ℕ) (p : Posting) (o : Option Message) (c : Bool) (is : List Input) → AllGets is → AllGets (given m (arriving_input p o c) ++ is)
gets_given m p None c is h = h
gets_given m p (Some x) true is h = h
gets_given m p (Some x) false is h = go (p.to == m)
  where
    go : (b : Bool) → AllGets (given_if (Gets p.from x) b ++ is)
    go true = h
    go false = h

gets_input : (w : World) (m : ℕ) (o : Option Posting) (is : List Input) → AllGets is → AllGets (given m (input_of w o) ++ is)
gets_input w m None is h = h
gets_input w m (Some p) is h = go (is_blocked w p)
  where
    go : (b : Bool) → AllGets (given m (unblocked p b) ++ is)
    go true = h
    go false = gets_given m p (message_of p.bytes) (p.to == client) is h

gets_ins : (w : World) (m : ℕ) (fl : List ℕ) → AllGets (ins w (map event.Deliver fl) m)
gets_ins w m [] = tt
gets_ins w m (i ∷ fl) = gets_input w m (posting_at w.network i) (ins w (map event.Deliver fl) m) (gets_ins w m fl)

pub gets_inbox : (w : World) (m : ℕ) → AllGets (inbox w m)
gets_inbox w m = gets_ins w m w.network.flying

-- ---- the parts of what comes

from_of : Input → ℕ
from_of Ticks = 0
from_of (Gets a x) = a

message_in : Input → Message
message_in Ticks = message.MapAsk
message_in (Gets a x) = x

pub same_from : (a b : ℕ) (x y : Message) → Gets a x ≡ Gets b y → a ≡ b
unfolding from_of
same_from a b x y e = ap from_of e

pub same_message : (a b : ℕ) (x y : Message) → Gets a x ≡ Gets b y → x ≡ y
unfolding message_in
same_message a b x y e = ap message_in e

-- in the flow after a flow no beat comes
pub quiet_after : (n : ℕ) (u v : World) → Flowed n u v → (B : Heard → Type 0) (a m : ℕ) → BeatsAre B a (inbox v m)
quiet_after n u v f B a m = beats_are B a (inbox v m) (λ x p h r i. never x p h r (came v m f.posted (Gets a (message.Heartbeat x p h r)) (subst (λ (is : List Input). Among is (Gets a (message.Heartbeat x p h r))) (f.inbox m) i)))
  where
    never : (x p : ClusterKey) (h : List ℕ) (r : Role) → Came v m f.posted (Gets a (message.Heartbeat x p h r)) → B (new_heard x p h r)
    never x p h r c =
        let beat : Message = message.Heartbeat x p h r in
        let is : c.message ≡ beat = same_message c.from a c.message beat c.is in
        let silent : asks (kind c.message) ≡ false = none_among asks (outbox n (u.clocks c.from) (u.facts c.from) (inbox u c.from)) m c.message (outbox_none n (u.clocks c.from) (u.facts c.from) (inbox u c.from) (gets_inbox u c.from)) (subst (λ (ls : List (ℕ × Message)). Among ls (m, c.message)) (f.from c.from) c.letter) in
        differ (ap (λ (y : Message). asks (kind y)) is) silent

-- ---- worlds with these up nodes

same_ups : (w v : World) → v.nodes ≡ w.nodes → ((m : ℕ) → is_up v m ≡ is_up w m) → up_nodes v ≡ up_nodes w
same_ups w v nodes ups =
    let test : is_up v ≡ is_up w = λ i m. ups m i in
    ap (λ (ns : List ℕ). in_order nat_lt (filter (is_up v) ns)) nodes ∙ ap (λ (t : ℕ → Bool). in_order nat_lt (filter t w.nodes)) test

-- what a round leaves
pub record Framed (w v : World) : Type 0 where
  pub nodes : v.nodes ≡ w.nodes
  pub clocks : v.clocks ≡ w.clocks
  pub groups : v.network.groups ≡ w.network.groups
  pub ups : (m : ℕ) → is_up v m ≡ is_up w m
  pub same : (m : ℕ) → Same (v.facts m) (w.facts m)

pub by_served : (n : ℕ) (w v : World) (is : ℕ → List Input) → ((m : ℕ) → v.facts m ≡ served n (w.clocks m) (w.facts m) (is m)) → (m : ℕ) → Same (v.facts m) (w.facts m)
by_served n w v is h m = subst (λ (f : Facts). Same f (w.facts m)) (sym (h m)) (served_same n (w.clocks m) (w.facts m) (is m))

pub flow_frame : (n : ℕ) (w v : World) → Flowed n w v → Framed w v
flow_frame n w v f = record { nodes = f.nodes; clocks = f.clocks; groups = f.groups; ups = f.ups; same = by_served n w v (inbox w) f.facts }

pub frame_on : (w u v : World) → Framed w u → Framed u v → Framed w v
frame_on w u v f g = record {
  nodes = g.nodes ∙ f.nodes;
  clocks = g.clocks ∙ f.clocks;
  groups = g.groups ∙ f.groups;
  ups = λ m. g.ups m ∙ f.ups m;
  same = λ m. same_on (v.facts m) (u.facts m) (w.facts m) (g.same m) (f.same m);
}

pub round_frame : (n : ℕ) (w v : World) → Rounded n w v → Framed w v
round_frame n w v r =
    let t : Framed w r.ticks_end = record { nodes = r.ticks.nodes; clocks = r.ticks.clocks; groups = r.ticks.groups; ups = r.ticks.ups; same = by_served n w r.ticks_end (λ m. ticks_if (has_node (up_nodes w) m)) r.ticks.facts } in
    frame_on w r.ticks_end v t
    (frame_on r.ticks_end r.first_end v (flow_frame n r.ticks_end r.first_end r.first)
    (frame_on r.first_end r.second_end v (flow_frame n r.first_end r.second_end r.second)
    (frame_on r.second_end r.third_end v (flow_frame n r.second_end r.third_end r.third) (flow_frame n r.third_end v r.fourth))))

pub base_kept : (n : ℕ) (ns : List ℕ) (w v : World) → Base ns w → Rounded n w v → Base ns v
base_kept n ns w v b r =
    let f : Framed w v = round_frame n w v r in
    record {
      named = r.fourth.named;
      in_order = r.fourth.in_order;
      once = b.once;
      ups = same_ups w v f.nodes f.ups ∙ b.ups;
      up = λ m e. f.ups m ∙ b.up m e;
    }

-- ---- what the ticks bring

pub outbox_ticks : (n c : ℕ) (f : Facts) (b : Bool) → b ≡ true → outbox n c f (ticks_if b) ≡ sent_at n c f Ticks
outbox_ticks n c f b e = ap (λ (x : Bool). outbox n c f (ticks_if x)) e ∙ append-nil (sent_at n c f Ticks)

-- the beats among what the ticks bring are those of the ticks
pub record Told (ns : List ℕ) (w t : World) (a m : ℕ) (h : Heard) : Type 0 where
  pub ticks : has_node ns a ≡ true
  pub free : is_blocked t (record { from = a; to = m; bytes = [] }) ≡ false
  pub is : beat_entry (w.facts a) ≡ h

entry_of : Message → Heard
entry_of (message.Heartbeat view promised hears role) = new_heard view promised hears role
entry_of _ = new_heard (record { round = 0; principal = 0 }) (record { round = 0; principal = 0 }) [] (record { rack = 0; quiesced = false })

told_as : (f : Facts) (x p : ClusterKey) (h : List ℕ) (r : Role) → beat_of (after_ages f) ≡ message.Heartbeat x p h r → beat_entry f ≡ new_heard x p h r
unfolding entry_of
told_as f x p h r e = ap entry_of e

pub ticks_beats : (n : ℕ) (ns : List ℕ) (w t : World) (k : Ticked n w t ns) → ((m : ℕ) → has_node ns m ≡ true → is_up w m ≡ true) → (a m : ℕ) → (has_node ns a ≡ true → Speaks (w.facts a)) → BeatsAre (Told ns w t a m) a (arriving_at t m k.posted)
ticks_beats n ns w t k ups a m speaks = beats_are (Told ns w t a m) a (arriving_at t m k.posted) (λ x p h r i. one x p h r (came t m k.posted (Gets a (message.Heartbeat x p h r)) i))
  where
    one : (x p : ClusterKey) (h : List ℕ) (r : Role) → Came t m k.posted (Gets a (message.Heartbeat x p h r)) → Told ns w t a m (new_heard x p h r)
    one x p h r c = go (has_node ns a) refl
      where
        beat : Message
        beat = message.Heartbeat x p h r

        who : c.from ≡ a
        who = same_from c.from a c.message beat c.is

        letter : Among (outbox n (w.clocks a) (w.facts a) (ticks_if (has_node ns a))) (m, beat)
        letter =
            subst (λ (ls : List (ℕ × Message)). Among ls (m, beat)) (k.from a)
            (subst (λ (y : ℕ). Among (letters_from y k.posted) (m, beat)) who
            (subst (λ (y : Message). Among (letters_from c.from k.posted) (m, y)) (same_message c.from a c.message beat c.is) c.letter))

        free : is_blocked t (record { from = a; to = m; bytes = [] }) ≡ false
        free = subst (λ (y : ℕ). is_blocked t (record { from = y; to = m; bytes = [] }) ≡ false) who c.free

        of_tick : has_node ns a ≡ true → beat_entry (w.facts a) ≡ new_heard x p h r
        of_tick e =
            let s : TickSends n (w.clocks a) (w.facts a) = tick_sends n (w.clocks a) (w.facts a) (ups a e) in
            split s (among_either (m, beat) (as_read (to_each (w.facts a).peers (beat_of (after_ages (w.facts a))))) s.others
            (subst (λ (ls : List (ℕ × Message)). Among ls (m, beat)) (outbox_ticks n (w.clocks a) (w.facts a) (has_node ns a) e ∙ s.all) letter))
          where
            split : (s : TickSends n (w.clocks a) (w.facts a)) → Among (as_read (to_each (w.facts a).peers (beat_of (after_ages (w.facts a))))) (m, beat) ⊎ Among s.others (m, beat) → beat_entry (w.facts a) ≡ new_heard x p h r
            split s (inl i) = told_as (w.facts a) x p h r (among_each (beat_of (after_ages (w.facts a))) (speaks e) (w.facts a).peers m beat i)
            split s (inr i) = differ refl (none_among is_one s.others m beat s.silent i)

        go : (b : Bool) → has_node ns a ≡ b → Told ns w t a m (new_heard x p h r)
        go true e = record { ticks = e; free = free; is = of_tick e }
        go false e = absurd (subst (λ (b : Bool). Among (outbox n (w.clocks a) (w.facts a) (ticks_if b)) (m, beat)) e letter)

-- and a node that is near has one
pub tick_beat : (n : ℕ) (ns : List ℕ) (w t : World) (k : Ticked n w t ns) → ((m : ℕ) → has_node ns m ≡ true → is_up w m ≡ true) → (a m : ℕ) → Near ns w a m → Speaks (w.facts a) → Among (arriving_at t m k.posted) (Gets a (beat_of (after_ages (w.facts a))))
tick_beat n ns w t k ups a m near speaks =
    let s : TickSends n (w.clocks a) (w.facts a) = tick_sends n (w.clocks a) (w.facts a) (ups a near.sender) in
    let beat : Message = beat_of (after_ages (w.facts a)) in
    let opened : Open t a m = record {
      up = k.ups m ∙ ups m near.receiver;
      together = ap (λ (gs : List (List ℕ)). not (a == client) && (not (m == client) && apart gs a m)) k.groups ∙ near.together;
      node = near.node;
    } in
    arrives t a m beat k.posted opened
    (subst (λ (ls : List (ℕ × Message)). Among ls (m, beat)) (sym (k.from a ∙ outbox_ticks n (w.clocks a) (w.facts a) (has_node ns a) near.sender ∙ s.all))
    (among_front (m, beat) (as_read (to_each (w.facts a).peers beat)) s.others (each_among beat speaks (w.facts a).peers m near.peer)))

-- ---- a round

pub flow_heard : (n : ℕ) (w v : World) (m : ℕ) → Flowed n w v → (v.facts m).hearing.heard ≡ hear_all (w.facts m).hearing.heard (inbox w m)
flow_heard n w v m f = ap (λ (g : Facts). g.hearing.heard) (f.facts m) ∙ served_heard n (w.clocks m) (w.facts m) (inbox w m) (gets_inbox w m)

pub ticks_heard : (n : ℕ) (ns : List ℕ) (w t : World) (m : ℕ) → Ticked n w t ns → has_node ns m ≡ true → is_up w m ≡ true → (t.facts m).hearing.heard ≡ aged (w.facts m).hearing.heard
ticks_heard n ns w t m k e up =
    ap (λ (g : Facts). g.hearing.heard) (k.facts m)
    ∙ ap (λ (b : Bool). (served n (w.clocks m) (w.facts m) (ticks_if b)).hearing.heard) e
    ∙ tick_heard n (w.clocks m) (w.facts m) up

-- after the first flow what is heard of a node is as after the round
pub later_heard : (n : ℕ) (w v : World) (r : Rounded n w v) (B : Heard → Type 0) (a m : ℕ) → HeardAs B (r.first_end.facts m).hearing.heard a → HeardAs B (v.facts m).hearing.heard a
later_heard n w v r B a m h =
    let two : HeardAs B (r.second_end.facts m).hearing.heard a = subst (λ (t : Table Heard). HeardAs B t a) (sym (flow_heard n r.first_end r.second_end m r.second)) (heard_kept B _ a (inbox r.first_end m) (quiet_after n r.ticks_end r.first_end r.first B a m) h) in
    let three : HeardAs B (r.third_end.facts m).hearing.heard a = subst (λ (t : Table Heard). HeardAs B t a) (sym (flow_heard n r.second_end r.third_end m r.third)) (heard_kept B _ a (inbox r.second_end m) (quiet_after n r.first_end r.second_end r.second B a m) two) in
    subst (λ (t : Table Heard). HeardAs B t a) (sym (flow_heard n r.third_end v m r.fourth)) (heard_kept B _ a (inbox r.third_end m) (quiet_after n r.second_end r.third_end r.third B a m) three)

told_is : (ns : List ℕ) (w t : World) (a m : ℕ) (h : Heard) → Told ns w t a m h → beat_entry (w.facts a) ≡ h
told_is ns w t a m h x = x.is

pub weaker : (B C : Heard → Type 0) (t : Table Heard) (a : ℕ) → ((h : Heard) → B h → C h) → HeardAs B t a → HeardAs C t a
weaker B C t a f h = record { entry = h.entry; stands = h.stands; good = f h.entry h.good }

-- after a round an up node has this round's beat of each node that is near to it
pub fresh : (n : ℕ) (ns : List ℕ) (w v : World) → Base ns w → Rounded n w v → (a m : ℕ) → Near ns w a m → Speaks (w.facts a) → HeardAs (λ h. beat_entry (w.facts a) ≡ h) (v.facts m).hearing.heard a
fresh n ns w v b r a m near speaks =
    let t : World = r.ticks_end in
    let k : Ticked n w t ns = subst (λ (xs : List ℕ). Ticked n w t xs) b.ups r.ticks in
    let g : Facts = after_ages (w.facts a) in
    let h0 : Table Heard = hear_all (t.facts m).hearing.heard (inbox w m) in
    let new : HeardAs (Told ns w t a m) (hear_all h0 (arriving_at t m k.posted)) a = heard_new (Told ns w t a m) h0 a (view_key g) g.agreement.promised (heard_ids g.hearing.heard) g.role (arriving_at t m k.posted) (ticks_beats n ns w t k b.up a m (λ e. speaks)) (tick_beat n ns w t k b.up a m near speaks) in
    let whole : (r.first_end.facts m).hearing.heard ≡ hear_all h0 (arriving_at t m k.posted) =
    flow_heard n t r.first_end m r.first ∙ ap (λ (is : List Input). hear_all (t.facts m).hearing.heard is) (k.inbox m) ∙ hear_append (t.facts m).hearing.heard (inbox w m) (arriving_at t m k.posted) in
    weaker (Told ns w t a m) (λ h. beat_entry (w.facts a) ≡ h) (v.facts m).hearing.heard a (told_is ns w t a m)
    (later_heard n w v r (Told ns w t a m) a m (subst (λ (x : Table Heard). HeardAs (Told ns w t a m) x a) (sym whole) new))
