-- Deliveries: which event each is, its line, and what arrives.
use Rattle.std.specs.Prelude.{◌≡◌, ℕ, nat_lt, Bool, true, false, List, length, Option, Some, None}
use Rattle.journal_lines.specs.declared.line.Line.{Line}
use Rattle.journal_lines.specs.declared.line.Line.TheVariants as line
use Rattle.wire_messages.specs.declared.message.Message.{Message}
use Rattle.wire_messages.specs.Decoding.{message_of}
use Rattle.cluster_rules.specs.declared.event.Event.{Event}
use Rattle.cluster_rules.specs.declared.event.Event.TheVariants as event
use Rattle.cluster_rules.specs.DueEvents.{is_blocked}
use Rattle.cluster_rules.specs.Marks.{event_begun, taken_by}
use Rattle.journal_readings.specs.Messages.{Posting}
use Rattle.cluster_rules.specs.Network.{Network, flying_at, landed}
use Rattle.cluster_rules.specs.NodeSteps.{after_step}
use Rattle.world.specs.declared.arriving.Arriving.{Arriving}
use Rattle.world.specs.declared.delivery.Arrival.{Arrival}
use Rattle.world.specs.declared.delivery.Arrival.TheVariants as arrival
use Rattle.world.specs.declared.delivery.Delivery.{Delivery}
use Rattle.world.specs.declared.delivery.Delivery.TheVariants as delivery
use Rattle.world.specs.Steps.{RunSoFar, standing}

abbrev pub delivering : ℕ → Delivery → Event
delivering i delivery.Whole = event.Deliver i
delivering i delivery.Repeated = event.Repeat i
delivering i (delivery.Cut size) = event.Cut i size

-- a repeated message stays in flight
abbrev pub landing_of : ℕ → Delivery → Option ℕ
landing_of i delivery.Whole = Some i
landing_of i delivery.Repeated = None
landing_of i (delivery.Cut size) = Some i

abbrev pub line_of_delivery : ℕ → ℕ → ℕ → Delivery → Line
line_of_delivery i from to delivery.Whole = line.Deliver i from to
line_of_delivery i from to delivery.Repeated = line.Repeat i from to
line_of_delivery i from to (delivery.Cut size) = line.Cut i from to size

-- whether fewer bytes than so many arrive
abbrev pub is_short_of : ℕ → Delivery → Bool
is_short_of count delivery.Whole = false
is_short_of count delivery.Repeated = false
is_short_of count (delivery.Cut size) = nat_lt size count

abbrev pub read_as : Option Message → Arrival
read_as None = arrival.Unread
read_as (Some m) = arrival.Message m

abbrev pub arrival_if : List ℕ → Bool → Arrival
arrival_if bytes true = arrival.Short
arrival_if bytes false = read_as (message_of bytes)

-- what arrives of a message of these bytes
abbrev pub arrival_of : List ℕ → Delivery → Arrival
arrival_of bytes how = arrival_if bytes (is_short_of (length bytes) how)

-- ---- a delivery in a world

-- the network without the message, if one lands
abbrev pub landed_if : Network → Option ℕ → Network
landed_if net None = net
landed_if net (Some i) = landed net i

-- the event's step does nothing but take that message out of flight
pub record OnlyLands (r : RunSoFar) (e : Event) (landing : Option ℕ) : Type 0 where
  pub lands : taken_by (standing r).network e ≡ landed_if (standing r).network landing
  pub only : after_step (standing r) e ≡ event_begun (standing r) e

-- a message arrives: one that is in flight, isn't blocked, isn't short, and is read so
pub record Arrives (r : RunSoFar) (a : Arriving) : Type 0 where
  pub number : ℕ
  pub how : Delivery
  pub posting : Posting
  pub event : a.event.value ≡ delivering number how
  pub flying : flying_at (standing r).network number ≡ Some posting
  pub free : is_blocked (standing r) posting ≡ false
  pub whole : is_short_of (length posting.bytes) how ≡ false
  pub read : message_of posting.bytes ≡ Some a.message
  pub from : a.from ≡ posting.from
  pub to_end : a.to ≡ posting.to
  pub line : a.line ≡ line_of_delivery number posting.from posting.to how
  pub landing : a.landing ≡ landing_of number how
