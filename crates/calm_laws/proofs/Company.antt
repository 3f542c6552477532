-- What comes to a node of a group in a flow was sent by a node of the group.
use Rattle.std.proofs.Common.{◌≡◌, ℕ, ◌==◌, ◌||◌, ◌&&◌, not, Bool, true, false, List, [], ◌∷◌, ◌++◌, map, Option, Some, None, refl, ap, subst, ◌∙◌, inl, inr}
use Rattle.std.specs.Prelude.{flat_map}
use Rattle.cluster_types.specs.Groups.{apart}
use Rattle.wire_messages.specs.declared.message.Message.{Message}
use Rattle.wire_messages.specs.Decoding.{message_of}
use Rattle.node_rules.specs.Tables.{contains}
use Rattle.cluster_rules.specs.declared.event.Event.TheVariants as event
use Rattle.cluster_rules.specs.DueEvents.{is_blocked}
use Rattle.journal_readings.specs.Lines.{has_node}
use Rattle.journal_readings.specs.Messages.{Posting}
use Rattle.cluster_rules.specs.Network.{are_apart, posting_at}
use Rattle.cluster_rules.specs.World.{World, is_up}
use Rattle.cluster_rules.proofs.KeptFacts.{num_same}
use Rattle.cluster_laws.proofs.At.{differ}
use Rattle.run_laws.specs.Tied.{Among}
use Rattle.node_rules.specs.Messages.{client}
use Rattle.calm_laws.specs.Acts.{Input, Ticks, Gets, sent_at, outbox}
use Rattle.calm_laws.specs.Flows.{Flowed, Ticked, inbox, ticks_if}
use Rattle.calm_laws.specs.Group.{Away, Group, replies, kind}
use Rattle.calm_laws.specs.Letters.{letters_from, arriving_input, unblocked, input_of, given, given_if, ins, arriving_at}
use Rattle.calm_laws.proofs.Flow.{Came, came}
use Rattle.calm_laws.proofs.Groups.{near_round}
use Rattle.calm_laws.proofs.Hearing.{Framed, by_served, gets_inbox, same_from, same_message, outbox_ticks}
use Rattle.calm_laws.proofs.Inputs.{outbox_only, SentBy, kept_along}
use Rattle.calm_laws.proofs.Proposals.{all_gets}
use Rattle.calm_laws.proofs.Replies.{answers, answers_all}

-- ---- a group stays one

away_kept : (ns : List ℕ) (w v : World) → Framed w v → (a m : ℕ) → Away ns w a m → Away ns v a m
away_kept ns w v f a m (inl e) = inl (ap (λ (gs : List (List ℕ)). not (a == client) && (not (m == client) && apart gs a m)) f.groups ∙ e)
away_kept ns w v f a m (inr s) = inr (record { out = s.out; down = f.ups a ∙ s.down })

pub group_kept : (ns gs : List ℕ) (w v : World) → Framed w v → Group ns gs w → Group ns gs v
group_kept ns gs w v f g = record {
  up = g.up;
  near = λ a m x y d. near_round ns w v f a m (g.near a m x y d);
  away = λ a m x y. away_kept ns w v f a m (g.away a m x y);
}

pub tick_frame : (n : ℕ) (w t : World) (ns : List ℕ) → Ticked n w t ns → Framed w t
tick_frame n w t ns k = record { nodes = k.nodes; clocks = k.clocks; groups = k.groups; ups = k.ups; same = by_served n w t (λ m. ticks_if (has_node ns m)) k.facts }

-- ---- nothing comes to a node that is down

down_letter : (w : World) (a : ℕ) → is_up w a ≡ false → (p : Posting) (o : Option Message) → is_blocked w p ≡ false → given a (arriving_input p o (p.to == client)) ≡ []
down_letter w a down p None free = refl
down_letter w a down p (Some x) free = go (p.to == client) refl (p.to == a) refl
  where
    go : (b : Bool) → (p.to == client) ≡ b → (d : Bool) → (p.to == a) ≡ d → given a (arriving_input p (Some x) b) ≡ []
    go true e d s = refl
    go false e false s = ap (λ (d : Bool). given_if (Gets p.from x) d) s
    go false e true s = differ (shut (are_apart w.network p.from p.to)) free
      where
        shut : (b : Bool) → (b || (not (p.to == client) && not (is_up w p.to))) ≡ true
        shut true = refl
        shut false = ap (λ (b : Bool). not b && not (is_up w p.to)) e ∙ ap (λ (b : Bool). not b) (ap (λ (k : ℕ). is_up w k) (num_same p.to a s) ∙ down)

down_input : (w : World) (a : ℕ) → is_up w a ≡ false → (o : Option Posting) → given a (input_of w o) ≡ []
down_input w a down None = refl
down_input w a down (Some p) = go (is_blocked w p) refl
  where
    go : (b : Bool) → is_blocked w p ≡ b → given a (unblocked p b) ≡ []
    go true e = refl
    go false e = down_letter w a down p (message_of p.bytes) e

down_ins : (w : World) (a : ℕ) → is_up w a ≡ false → (fl : List ℕ) → ins w (map event.Deliver fl) a ≡ []
down_ins w a down [] = refl
down_ins w a down (i ∷ fl) = ap (λ (is : List Input). is ++ ins w (map event.Deliver fl) a) (down_input w a down (posting_at w.network i)) ∙ down_ins w a down fl

pub down_inbox : (w : World) (a : ℕ) → is_up w a ≡ false → inbox w a ≡ []
down_inbox w a down = down_ins w a down w.network.flying

-- ---- senders

-- a message that came to a node of the group: its sender is of the group, and what it did sent it
pub record FromGroup (gs : List ℕ) (a m : ℕ) (x : Message) (out : List (ℕ × Message)) : Type 0 where
  pub sender : has_node gs a ≡ true
  pub sent : Among out (m, x)

pub from_group : (n : ℕ) (ns gs : List ℕ) (u v : World) → Group ns gs u → Flowed n u v → (a m : ℕ) (x : Message) → has_node gs m ≡ true → Among (inbox v m) (Gets a x)
    → FromGroup gs a m x (outbox n (u.clocks a) (u.facts a) (inbox u a))
from_group n ns gs u v g f a m x here h = record { sender = go (has_node gs a) refl; sent = sent }
  where
    c : Came v m f.posted (Gets a x)
    c = came v m f.posted (Gets a x) (subst (λ (is : List Input). Among is (Gets a x)) (f.inbox m) h)

    sent : Among (outbox n (u.clocks a) (u.facts a) (inbox u a)) (m, x)
    sent =
        subst (λ (ls : List (ℕ × Message)). Among ls (m, x)) (f.from a)
        (subst (λ (y : Message). Among (letters_from a f.posted) (m, y)) (same_message c.from a c.message x c.is)
        (subst (λ (y : ℕ). Among (letters_from y f.posted) (m, c.message)) (same_from c.from a c.message x c.is) c.letter))

    free : is_blocked v (record { from = a; to = m; bytes = [] }) ≡ false
    free = subst (λ (y : ℕ). is_blocked v (record { from = y; to = m; bytes = [] }) ≡ false) (same_from c.from a c.message x c.is) c.free

    never : Away ns u a m → ⊥
    never (inl e) =
        let same : are_apart v.network a m ≡ true = ap (λ (ls : List (List ℕ)). not (a == client) && (not (m == client) && apart ls a m)) f.groups ∙ e in
        differ (ap (λ (b : Bool). b || (not (m == client) && not (is_up v m))) same) free
    never (inr s) = subst (λ (is : List Input). Among (outbox n (u.clocks a) (u.facts a) is) (m, x)) (down_inbox u a s.down) sent

    go : (b : Bool) → has_node gs a ≡ b → has_node gs a ≡ true
    go true e = e
    go false e = absurd (never (g.away a m e here))

-- what the ticks bring to a node of the group was sent by the tick of a node of the group
pub from_ticks : (n : ℕ) (ns gs : List ℕ) (w t : World) → Group ns gs w → (k : Ticked n w t ns) → (a m : ℕ) (x : Message) → has_node gs m ≡ true → Among (arriving_at t m k.posted) (Gets a x)
    → FromGroup gs a m x (sent_at n (w.clocks a) (w.facts a) Ticks)
from_ticks n ns gs w t g k a m x here h = record { sender = member; sent = subst (λ (ls : List (ℕ × Message)). Among ls (m, x)) (outbox_ticks n (w.clocks a) (w.facts a) (has_node ns a) (ticking (has_node ns a) refl)) sent }
  where
    c : Came t m k.posted (Gets a x)
    c = came t m k.posted (Gets a x) h

    sent : Among (outbox n (w.clocks a) (w.facts a) (ticks_if (has_node ns a))) (m, x)
    sent =
        subst (λ (ls : List (ℕ × Message)). Among ls (m, x)) (k.from a)
        (subst (λ (y : Message). Among (letters_from a k.posted) (m, y)) (same_message c.from a c.message x c.is)
        (subst (λ (y : ℕ). Among (letters_from y k.posted) (m, c.message)) (same_from c.from a c.message x c.is) c.letter))

    ticking : (b : Bool) → has_node ns a ≡ b → has_node ns a ≡ true
    ticking true e = e
    ticking false e = absurd (subst (λ (b : Bool). Among (outbox n (w.clocks a) (w.facts a) (ticks_if b)) (m, x)) e sent)

    free : is_blocked t (record { from = a; to = m; bytes = [] }) ≡ false
    free = subst (λ (y : ℕ). is_blocked t (record { from = y; to = m; bytes = [] }) ≡ false) (same_from c.from a c.message x c.is) c.free

    never : Away ns w a m → ⊥
    never (inl e) =
        let same : are_apart t.network a m ≡ true = ap (λ (ls : List (List ℕ)). not (a == client) && (not (m == client) && apart ls a m)) k.groups ∙ e in
        differ (ap (λ (b : Bool). b || (not (m == client) && not (is_up t m))) same) free
    never (inr s) = differ (ticking (has_node ns a) refl) s.out

    go : (b : Bool) → has_node gs a ≡ b → has_node gs a ≡ true
    go true e = e
    go false e = absurd (never (g.away a m e here))

    member : has_node gs a ≡ true
    member = go (has_node gs a) refl

-- ---- kinds of messages, flow by flow

-- what comes to the nodes of the group is of these kinds
abbrev pub KindsIn : List ℕ → List ℕ → World → Type 0
KindsIn gs ks w = (m : ℕ) → has_node gs m ≡ true → (a : ℕ) (x : Message) → Among (inbox w m) (Gets a x) → contains ks (kind x) ≡ true

-- what comes in the next flow answers that
pub flow_kinds : (n : ℕ) (ns gs ks : List ℕ) (u v : World) → Group ns gs u → Flowed n u v → KindsIn gs ks u → KindsIn gs (flat_map replies ks) v
flow_kinds n ns gs ks u v g f kinds m here a x h =
    let from : FromGroup gs a m x (outbox n (u.clocks a) (u.facts a) (inbox u a)) = from_group n ns gs u v g f a m x here h in
    let by : SentBy n (u.clocks a) (λ f. Unit {0}) (inbox u a) (m, x) = outbox_only n (u.clocks a) (λ f. Unit {0}) (inbox u a) (u.facts a) (m, x) (kept_along n (u.clocks a) (λ f. Unit {0}) (inbox u a) (u.facts a) (λ f i j p. tt) tt) from.sent in
    all_gets (inbox u a) by.act (gets_inbox u a) by.came (λ i. Among (inbox u a) i → Among (sent_at n (u.clocks a) by.facts i) (m, x) → contains (flat_map replies ks) (kind x) ≡ true)
    (λ b y came sent. answers_all ks (kind y) (kind x) (kinds a from.sender b y came) (answers n (u.clocks a) by.facts b y m x sent)) by.came by.sent
