-- The keys that a line or its message names, and the members that it names with a key.
use Rattle.std.specs.Prelude.{Bool, not, List, [], ◌∷◌, ◌++◌, flat_map, Option, Some, None, option_and_then}
use Rattle.std.specs.List.{list_all}
use Rattle.cluster_types.specs.declared.cluster_key.ClusterKey.{ClusterKey}
use Rattle.cluster_types.specs.declared.copy_state.CopyState.{CopyState}
use Rattle.cluster_types.specs.declared.copy_state.CopyState.TheVariants.{Empty, Part, Whole}
use Rattle.cluster_types.specs.declared.member.Member.{Member}
use Rattle.cluster_types.specs.ClusterKeys.{key_lt}
use Rattle.wire_messages.specs.declared.message.Message.{Message}
use Rattle.wire_messages.specs.declared.message.Message.TheVariants as message
use Rattle.wire_messages.specs.Decoding.{message_of}
use Rattle.journal_lines.specs.declared.line.Line.{Line}
use Rattle.journal_lines.specs.declared.line.Line.TheVariants as line
use Rattle.journal_readings.specs.Views.{promised_key}

-- ---- keys

abbrev pub copy_keys : CopyState → List ClusterKey
copy_keys Empty = []
copy_keys Part = []
copy_keys (Whole k writes) = k ∷ []

-- the keys of a message, those of the copies in a row among them
abbrev pub message_keys : Message → List ClusterKey
message_keys (message.Heartbeat view promised hears role) = view ∷ promised ∷ []
message_keys (message.Propose k ms) = k ∷ []
message_keys (message.Accept k) = k ∷ []
message_keys (message.Refuse refused promised) = refused ∷ promised ∷ []
message_keys (message.Commit k ms) = k ∷ []
message_keys (message.State k wants row) = k ∷ flat_map (λ e. copy_keys e.1) row
message_keys (message.Batch b) = b.key ∷ []
message_keys (message.BatchAck k number) = k ∷ []
message_keys (message.Progress k wants done handed settled) = k ∷ []
message_keys (message.Repl k t nth d v) = k ∷ []
message_keys (message.ReplAck k t) = k ∷ []
message_keys (message.Ask k t d) = k ∷ []
message_keys (message.Answer k t v) = k ∷ []
message_keys (message.MapTable table) = table.key ∷ []
message_keys (message.Proxy k x d want) = k ∷ []
message_keys (message.ProxyReply k x body) = k ∷ []
message_keys (message.Reply k q body) = k ∷ []
message_keys (message.ScanPage page) = page.key ∷ []
message_keys _ = []

abbrev pub read_keys : Option Message → List ClusterKey
read_keys None = []
read_keys (Some m) = message_keys m

-- the keys of a line: in its fields, and in the message that it sends
unfoldable pub named_keys : Line → List ClusterKey
named_keys (line.Sent i a b bytes) = read_keys (message_of bytes)
named_keys (line.Promise n k) = k ∷ []
named_keys (line.Enter n k ms) = k ∷ []
named_keys (line.Exchanged n k) = k ∷ []
named_keys (line.Opened n k t d a) = k ∷ []
named_keys (line.Value n k t d v) = k ∷ []
named_keys (line.Apply n k t d v) = k ∷ []
named_keys (line.Done n k t) = k ∷ []
named_keys (line.Aborted n k t) = k ∷ []
named_keys (line.Doubt n k t) = k ∷ []
named_keys (line.Merge n k d v) = k ∷ []
named_keys (line.Handed n k p) = k ∷ []
named_keys (line.Settled n k p) = k ∷ []
named_keys (line.Learn n k p) = k ∷ []
named_keys (line.Drop n k p) = k ∷ []
named_keys (line.Map n k p ms a) = k ∷ []
named_keys (line.Table k) = k ∷ []
named_keys (line.Proxy n k x d a acting) = k ∷ []
named_keys (line.Proxied n k x body) = k ∷ []
named_keys (line.Unproxied n k x) = k ∷ []
named_keys (line.Scanned s n k p size) = k ∷ []
named_keys _ = []

-- whether the key is at most what its principal has promised
abbrev pub is_promised : List Line → ClusterKey → Bool
is_promised lines k = not (key_lt (promised_key k.principal lines) k)

-- whether each key of the line is, the line itself counted
abbrev pub names_promised : List Line → Line → Bool
names_promised before l = list_all (is_promised (before ++ l ∷ [])) (named_keys l)

-- ---- members

abbrev pub message_members : Message → Option (ClusterKey × List Member)
message_members (message.Propose k ms) = Some (k, ms)
message_members (message.Commit k ms) = Some (k, ms)
message_members _ = None

-- the key and the members of a line that enters a view, or that sends a message which proposes or commits one
unfoldable pub named_members : Line → Option (ClusterKey × List Member)
named_members (line.Enter n k ms) = Some (k, ms)
named_members (line.Sent i a b bytes) = option_and_then message_members (message_of bytes)
named_members _ = None
