-- Where a message comes from.
use Rattle.std.proofs.Common.{◌≡◌, ◌≢◌, ◌⊎◌, ℕ, List, Contains, inl, inr, sym, ap, subst, ◌∙◌}
use Rattle.std.proofs.lemmas.List.Elements.{All-contains}
use Rattle.conflict_order.specs.declared.version.Version.{Version}
use Rattle.cluster_types.specs.declared.cluster_key.ClusterKey.{ClusterKey}
use Rattle.wire_messages.specs.declared.message.Message.{Message}
use Rattle.wire_messages.specs.declared.message.Message.TheVariants as message
use Rattle.wire_messages.specs.Nodes.{IsId}
use Rattle.node_rules.specs.Facts.{Facts}
use Rattle.node_rules.specs.Steps.{after_message}
use Rattle.node_rules.proofs.PartLaws.{repl_is}
use Rattle.node_rules.specs.Senders.{ComesFrom}
use Rattle.node_steps.specs.Ranges.{HasRanges}

-- what doesn't ask for a table comes from a peer
pub from_peer : (f : Facts) (from : ℕ) (m : Message) → ComesFrom f from m → m ≢ message.MapAsk → Contains f.peers from
from_peer f from m h kind = go h.sender
  where
    go : Contains f.peers from ⊎ ((from ≡ 0) × (m ≡ message.MapAsk)) → Contains f.peers from
    go (inl peer) = peer
    go (inr client) = absurd (kind client.1)

-- whose id is one of a node
pub from_node : (f : Facts) (from : ℕ) (m : Message) → ComesFrom f from m → m ≢ message.MapAsk → HasRanges f → IsId from
from_node f from m h kind ranges = All-contains IsId f.peers from ranges.peers (from_peer f from m h kind)

-- what a write makes of the facts is the same at any time
pub repl_planned : (f : Facts) (clock from : ℕ) (key : ClusterKey) (t nth : ℕ) (digest : List ℕ) (v : Version) (m : Message) (P : Facts → Type 0) → m ≡ message.Repl key t nth digest v
    → P (after_message f 0 from (message.Repl key t nth digest v)) → P (after_message f clock from m)
repl_planned f clock from key t nth digest v m P is planned =
    subst P (repl_is f 0 from key t nth digest v ∙ sym (repl_is f clock from key t nth digest v) ∙ ap (after_message f clock from) (sym is)) planned
