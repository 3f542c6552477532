-- What a step makes of the facts of each node.
use Rattle.std.specs.Prelude.{◌≡◌, ℕ, Bool, List, Some}
use Rattle.conflict_order.specs.declared.want.Want.{Want}
use Rattle.wire_messages.specs.declared.message.Message.{Message}
use Rattle.wire_messages.specs.Decoding.{message_of}
use Rattle.node_rules.specs.Facts.{Facts}
use Rattle.node_rules.specs.Notes.{marked}
use Rattle.node_rules.specs.Steps.{after_message, after_request, after_start, after_stop, after_tick}
use Rattle.journal_readings.specs.Messages.{Posting}
use Rattle.cluster_rules.specs.declared.event.Event.{Event}
use Rattle.cluster_rules.specs.declared.event.Event.TheVariants as event
use Rattle.cluster_rules.specs.Network.{posting_at}
use Rattle.cluster_rules.specs.World.{World}

-- the node's facts are these after the event's step: they stay, or it ticked, a message reached it, a request came, it
-- was stopped or started, or its mark was set or taken back
pub data Became (w : World) (e : Event) (m : ℕ) (g : Facts) : Type 0 where
  stayed : g ≡ w.facts m → Became w e m g
  ticked : e ≡ event.Tick m → g ≡ after_tick (w.facts m) → Became w e m g
  heard : (i : ℕ) (p : Posting) (x : Message) → posting_at w.network i ≡ Some p
      → message_of p.bytes ≡ Some x → p.to ≡ m → g ≡ after_message (w.facts m) (w.clocks m) p.from x
      → Became w e m g
  asked : (d : List ℕ) (q : Want) → g ≡ after_request (w.facts m) (w.clocks m) d q → Became w e m g
  stopped : g ≡ after_stop (w.facts m) → Became w e m g
  started : g ≡ after_start (w.facts m) → Became w e m g
  quiesced : (b : Bool) → g ≡ marked (w.facts m) b → Became w e m g
