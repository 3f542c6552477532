-- From whom a message may come to a node.
use Rattle.std.specs.Prelude.{◌≡◌, ◌⊎◌, ℕ, true, Option, Some, None, Contains}
use Rattle.cluster_types.specs.declared.cluster_key.ClusterKey.{ClusterKey}
use Rattle.wire_messages.specs.declared.message.Message.{Message}
use Rattle.wire_messages.specs.declared.message.Message.TheVariants as message
use Rattle.node_rules.specs.Facts.{Facts}
use Rattle.node_rules.specs.Messages.{client}
use Rattle.node_rules.specs.Notes.{in_view}
use Rattle.node_rules.specs.Standing.{others}

-- the key of a message that is of a view
abbrev pub view_key_of : Message → Option ClusterKey
view_key_of (message.State key wants row) = Some key
view_key_of (message.Batch b) = Some b.key
view_key_of (message.BatchAck key number) = Some key
view_key_of (message.Progress key wants done handed settled) = Some key
view_key_of (message.Repl key t nth digest v) = Some key
view_key_of (message.ReplAck key t) = Some key
view_key_of (message.Ask key t digest) = Some key
view_key_of (message.Answer key t v) = Some key
view_key_of _ = None

-- it comes from a peer, or from the client where it asks for a table; and one of the node's view from another member of it
pub record ComesFrom (f : Facts) (from : ℕ) (m : Message) : Type 0 where
  pub sender : Contains f.peers from ⊎ ((from ≡ client) × (m ≡ message.MapAsk))
  pub member : (key : ClusterKey) → view_key_of m ≡ Some key → in_view f key ≡ true
      → Contains (others f) from
