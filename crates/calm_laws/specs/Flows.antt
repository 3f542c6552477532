-- Flows and rounds as what each node makes of what comes to it, and whom the nodes hear.
use Rattle.std.specs.Prelude.{◌≡◌, ℕ, ◌<◌, ◌≤◌, ◌==◌, ◌⊎◌, Bool, true, false, List, [], ◌∷◌, ◌++◌, map, length, Option, Some}
use Rattle.std.specs.List.{list_any}
use Rattle.cluster_types.specs.declared.cluster_key.ClusterKey.{ClusterKey}
use Rattle.cluster_types.specs.declared.member.Role.{Role}
use Rattle.wire_messages.specs.declared.message.Message.{Message}
use Rattle.wire_messages.specs.declared.message.Message.TheVariants as message
use Rattle.wire_messages.specs.Decoding.{message_of}
use Rattle.wire_messages.specs.Spelling.{spelling}
use Rattle.node_rules.specs.Facts.{Facts, view_key}
use Rattle.node_rules.specs.Hearing.{Heard, heard_ids}
use Rattle.node_rules.specs.Notes.{after_ages}
use Rattle.node_rules.specs.Tables as tables
use Rattle.node_rules.specs.Tables.{Table, contains}
use Rattle.cluster_rules.specs.declared.event.Event.{Event}
use Rattle.cluster_rules.specs.declared.event.Event.TheVariants as event
use Rattle.cluster_rules.specs.CalmBound.{is_full_line, is_full_round}
use Rattle.cluster_rules.specs.DueEvents.{due_of}
use Rattle.journal_readings.specs.Lines.{has_node}
use Rattle.journal_readings.specs.Messages.{Posting}
use Rattle.cluster_rules.specs.Network.{are_apart}
use Rattle.cluster_rules.specs.Steps.{play, rounds}
use Rattle.cluster_rules.specs.World.{World, is_up, up_nodes}
use Rattle.run_laws.specs.Tied.{Among}
use Rattle.node_rules.specs.Messages.{client}
use Rattle.calm_laws.specs.Acts.{Input, Ticks, served, outbox}
use Rattle.calm_laws.specs.Letters.{letters_from, ins, arriving_at}

-- each node's facts are its own
abbrev pub Named : World → Type 0
Named w = (m : ℕ) → (w.facts m).me ≡ m

-- no message lacks a place
abbrev pub Clear : ℕ → World → List Event → Type 0
Clear n w [] = Unit {0}
Clear n w (e ∷ es) = (list_any is_full_line (due_of n w e) ≡ false) × Clear n (play n e w).world es

-- each of the numbers was given, and stands once
abbrev pub AreGiven : ℕ → List ℕ → Type 0
AreGiven s [] = Unit {0}
AreGiven s (i ∷ is) = (has_node is i ≡ false) × (0 < i) × (i ≤ s) × AreGiven s is

abbrev pub InOrder : World → Type 0
InOrder w = AreGiven (length w.network.sent) w.network.flying

-- what comes to the node in the next flow
abbrev pub inbox : World → ℕ → List Input
inbox w m = ins w (map event.Deliver w.network.flying) m

-- each node has made what it makes of what came to it, in the order of the flow; what it sends of that is what it
-- has posted, and this alone comes in the next flow
pub record Flowed (n : ℕ) (w v : World) : Type 0 where
  pub facts : (m : ℕ) → v.facts m ≡ served n (w.clocks m) (w.facts m) (inbox w m)
  pub nodes : v.nodes ≡ w.nodes
  pub clocks : v.clocks ≡ w.clocks
  pub groups : v.network.groups ≡ w.network.groups
  pub ups : (m : ℕ) → is_up v m ≡ is_up w m
  pub posted : List Posting
  pub from : (a : ℕ) → letters_from a posted ≡ outbox n (w.clocks a) (w.facts a) (inbox w a)
  pub still : ((m : ℕ) → inbox w m ≡ []) → v.network.flying ≡ []
  pub inbox : (m : ℕ) → inbox v m ≡ arriving_at v m posted
  pub named : Named v
  pub in_order : InOrder v

abbrev pub ticks_if : Bool → List Input
ticks_if true = Ticks ∷ []
ticks_if false = []

-- no number stands twice
abbrev pub Once : List ℕ → Type 0
Once [] = Unit {0}
Once (x ∷ xs) = (has_node xs x ≡ false) × Once xs

-- each of these nodes has ticked once; what was in flight comes in the next flow, and then what the ticks sent
pub record Ticked (n : ℕ) (w v : World) (ns : List ℕ) : Type 0 where
  pub facts : (m : ℕ) → v.facts m ≡ served n (w.clocks m) (w.facts m) (ticks_if (has_node ns m))
  pub nodes : v.nodes ≡ w.nodes
  pub clocks : v.clocks ≡ w.clocks
  pub groups : v.network.groups ≡ w.network.groups
  pub ups : (m : ℕ) → is_up v m ≡ is_up w m
  pub posted : List Posting
  pub from : (a : ℕ)
      → letters_from a posted ≡ outbox n (w.clocks a) (w.facts a) (ticks_if (has_node ns a))
  pub inbox : (m : ℕ) → inbox v m ≡ inbox w m ++ arriving_at v m posted
  pub named : Named v
  pub in_order : InOrder v

pub record Rounded (n : ℕ) (w v : World) : Type 0 where
  pub ticks_end : World
  pub first_end : World
  pub second_end : World
  pub third_end : World
  pub ticks : Ticked n w ticks_end (up_nodes w)
  pub first : Flowed n ticks_end first_end
  pub second : Flowed n first_end second_end
  pub third : Flowed n second_end third_end
  pub fourth : Flowed n third_end v

-- the beat's entry
abbrev pub new_heard : ClusterKey → ClusterKey → List ℕ → Role → Heard
new_heard view promised hears role = record {
  age = 0;
  beat = record { view = view; promised = promised; hears = hears; role = role };
}

abbrev pub look : Table Heard → ℕ → Option Heard
look t a = tables.at t a

-- the node is heard, by such an entry
pub record HeardAs (B : Heard → Type 0) (t : Table Heard) (a : ℕ) : Type 0 where
  pub entry : Heard
  pub stands : look t a ≡ Some entry
  pub good : B entry

-- the beat of the facts in a tick, when ages have risen
abbrev pub beat_of : Facts → Message
beat_of f = message.Heartbeat (view_key f) f.agreement.promised (heard_ids f.hearing.heard) f.role

-- the entry that the node's next beat makes
abbrev pub beat_entry : Facts → Heard
beat_entry f =
    new_heard (view_key (after_ages f)) (after_ages f).agreement.promised
    (heard_ids (after_ages f).hearing.heard) (after_ages f).role

-- its beat can be read
abbrev pub Speaks : Facts → Type 0
Speaks f = message_of (spelling (beat_of (after_ages f))) ≡ Some (beat_of (after_ages f))

pub record Base (ns : List ℕ) (w : World) : Type 0 where
  pub named : Named w
  pub in_order : InOrder w
  pub once : Once ns
  pub ups : up_nodes w ≡ ns
  pub up : (m : ℕ) → has_node ns m ≡ true → is_up w m ≡ true

-- two up nodes that aren't apart, of which the one sends beats to the other
pub record Near (ns : List ℕ) (w : World) (a m : ℕ) : Type 0 where
  pub sender : has_node ns a ≡ true
  pub receiver : has_node ns m ≡ true
  pub together : are_apart w.network a m ≡ false
  pub node : (m == client) ≡ false
  pub peer : Among (w.facts a).peers m

abbrev pub Foreign : List ℕ → World → ℕ → ℕ → Type 0
Foreign ns w a m = (has_node ns a ≡ false) ⊎ (are_apart w.network a m ≡ true)

-- this round's beat, of the present role, which names the hearer
pub record Fresh (present : Role) (m : ℕ) (h : Heard) : Type 0 where
  pub age : h.age ≡ 0
  pub role : h.beat.role ≡ present
  pub names : contains h.beat.hears m ≡ true

-- the world after so many rounds
abbrev pub world_at : ℕ → World → ℕ → World
world_at n w k = (rounds n k w).world

-- so many rounds in which no message lacks a place, with these up nodes, whose beats can be read
pub record Plain (n : ℕ) (ns : List ℕ) (w : World) (most : ℕ) : Type 0 where
  pub base : Base ns w
  pub placed : (k : ℕ) → k < most → is_full_round n w k ≡ false
  pub speaks : (k : ℕ) → k < most → (a : ℕ) → has_node ns a ≡ true
      → Speaks ((world_at n w k).facts a)
