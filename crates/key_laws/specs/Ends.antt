-- Between whom messages go, and whom lines name: nodes of which something holds, as that they are declared, and the client.
use Rattle.std.specs.Prelude.{◌≡◌, ◌<◌, ◌⊎◌, ℕ, Bool, true, false, List, [], ◌∷◌, Option, Some, None, slice_index, IsTrue}
use Rattle.std.specs.List.{concat}
use Rattle.cluster_types.specs.Members.{ids_of}
use Rattle.cluster_types.specs.Partitions.{partition_count}
use Rattle.wire_messages.specs.declared.message.MapTable.{MapTable}
use Rattle.wire_messages.specs.declared.message.Message.{Message}
use Rattle.wire_messages.specs.declared.message.Message.TheVariants as message
use Rattle.wire_messages.specs.declared.reply.ReplyBody.{ReplyBody}
use Rattle.wire_messages.specs.declared.reply.ReplyBody.TheVariants as reply
use Rattle.wire_messages.specs.declared.scan.ScanRefusal.{ScanRefusal}
use Rattle.wire_messages.specs.declared.scan.ScanRefusal.TheVariants as scan_refusal
use Rattle.wire_messages.specs.Decoding.{message_of}
use Rattle.journal_lines.specs.declared.refusal.Refusal.{Refusal}
use Rattle.journal_lines.specs.declared.refusal.Refusal.TheVariants as refusal
use Rattle.journal_lines.specs.declared.line.Line.{Line}
use Rattle.journal_lines.specs.declared.line.Line.TheVariants as line
use Rattle.journal_readings.specs.Lines.{has_node}
use Rattle.node_rules.specs.Messages.{client}

-- one of the declared nodes
abbrev pub IsOneOf : List ℕ → ℕ → Type 0
IsOneOf declared n = IsTrue (has_node declared n)

-- ---- messages

-- the one kind that the client sends
abbrev pub is_map_ask : Message → Bool
is_map_ask message.MapAsk = true
is_map_ask _ = false

-- such a node, or the client
abbrev pub IsEnd : (ℕ → Type 0) → ℕ → Type 0
IsEnd P n = (n ≡ client) ⊎ P n

-- the table names such a node for each partition
abbrev pub TableNames : (ℕ → Type 0) → MapTable → Type 0
TableNames P t = (p : ℕ) → p < partition_count → P (slice_index t.ids p)

-- the reply names such a node, if any
abbrev pub ReplyNames : (ℕ → Type 0) → ReplyBody → Type 0
ReplyNames P (reply.Exchanging n) = P n
ReplyNames P (reply.NotMaster n) = P n
ReplyNames P _ = Unit {0}

-- and so does the refusal of a scan
abbrev pub ScanCauseNames : (ℕ → Type 0) → ScanRefusal → Type 0
ScanCauseNames P (scan_refusal.Exchanging n) = P n
ScanCauseNames P (scan_refusal.NotMaster n) = P n
ScanCauseNames P _ = Unit {0}

-- what a message tells of nodes is of such nodes
abbrev pub Tells : (ℕ → Type 0) → Message → Type 0
Tells P (message.MapTable t) = TableNames P t
Tells P (message.ProxyReply key number b) = ReplyNames P b
Tells P (message.Reply key number b) = ReplyNames P b
Tells P (message.ScanNo scan cause) = ScanCauseNames P cause
Tells P _ = Unit {0}

-- what the bytes are read as, if anything
abbrev pub TellsIf : (ℕ → Type 0) → Option Message → Type 0
TellsIf P None = Unit {0}
TellsIf P (Some m) = Tells P m

-- such a node, and another than that one
pub record OtherNode (P : ℕ → Type 0) (n other : ℕ) : Type 0 where
  pub node : P other
  pub differ : n ≡ other → ⊥

-- such a node sent it to another end
pub record FromNode (P : ℕ → Type 0) (a b : ℕ) : Type 0 where
  pub sender : P a
  pub receiver : IsEnd P b
  pub differ : a ≡ b → ⊥

-- the client asked such a node for its table
pub record FromClient (P : ℕ → Type 0) (a b : ℕ) (bytes : List ℕ) : Type 0 where
  pub sender : a ≡ client
  pub receiver : P b
  pub asks : message_of bytes ≡ Some message.MapAsk

pub record GoesRight (P : ℕ → Type 0) (a b : ℕ) (bytes : List ℕ) : Type 0 where
  pub ends : FromNode P a b ⊎ FromClient P a b bytes
  pub tells : TellsIf P (message_of bytes)

-- ---- lines

abbrev pub AllNodes : (ℕ → Type 0) → List ℕ → Type 0
AllNodes P [] = Unit {0}
AllNodes P (n ∷ ns) = P n × AllNodes P ns

abbrev pub CauseNames : (ℕ → Type 0) → Refusal → Type 0
CauseNames P (refusal.Exchanging n) = P n
CauseNames P (refusal.NotMaster n) = P n
CauseNames P _ = Unit {0}

-- a line that is due names such nodes alone, and the message that it sends goes right. A header's lines aren't due
abbrev pub LineNames : (ℕ → Type 0) → Line → Type 0
LineNames P (line.Clock n time) = P n
LineNames P (line.Groups groups) = AllNodes P (concat groups)
LineNames P (line.Tick n) = P n
LineNames P (line.Stop n) = P n
LineNames P (line.Start n) = P n
LineNames P (line.Down n) = P n
LineNames P (line.Up n) = P n
LineNames P (line.Quiesce n) = P n
LineNames P (line.Unquiesce n) = P n
LineNames P (line.Deliver i a b) = IsEnd P a × IsEnd P b
LineNames P (line.Repeat i a b) = IsEnd P a × IsEnd P b
LineNames P (line.Cut i a b size) = IsEnd P a × IsEnd P b
LineNames P (line.Lost i) = Unit {0}
LineNames P (line.Blocked i) = Unit {0}
LineNames P (line.NoMessage i) = Unit {0}
LineNames P (line.Sent i a b bytes) = GoesRight P a b bytes
LineNames P (line.Full i) = Unit {0}
LineNames P (line.Short b) = IsEnd P b
LineNames P (line.Stale b) = IsEnd P b
LineNames P (line.Spent b) = IsEnd P b
LineNames P (line.Promise n k) = P n
LineNames P (line.Enter n k ms) = P n × AllNodes P (ids_of ms)
LineNames P (line.Exchanged n k) = P n
LineNames P (line.Opened n k t d a) = P n
LineNames P (line.Refused n d cause) = P n × CauseNames P cause
LineNames P (line.Value n k t d v) = P n
LineNames P (line.Apply n k t d v) = P n
LineNames P (line.Done n k t) = P n
LineNames P (line.Aborted n k t) = P n
LineNames P (line.Doubt n k t) = P n
LineNames P (line.Merge n k d v) = P n
LineNames P (line.Handed n k p) = P n
LineNames P (line.Settled n k p) = P n
LineNames P (line.Learn n k p) = P n
LineNames P (line.Drop n k p) = P n
LineNames P (line.Map n k p ms a) = P n × (P a × AllNodes P (ids_of ms))
LineNames P (line.Mapless n cause) = P n × CauseNames P cause
LineNames P (line.Place p ms) = AllNodes P (ids_of ms)
LineNames P (line.Hash d p) = Unit {0}
LineNames P (line.Holds n d v) = P n
LineNames P (line.Client n d) = P n
LineNames P (line.NoMap p) = Unit {0}
LineNames P (line.Table k) = Unit {0}
LineNames P (line.Calm rounds) = Unit {0}
LineNames P (line.Proxy n k x d a acting) = P n × OtherNode P n acting
LineNames P (line.Proxied n k x body) = P n × ReplyNames P body
LineNames P (line.Unproxied n k x) = P n
LineNames P line.CallFull = Unit {0}
LineNames P (line.Call q n d a) = P n
LineNames P (line.NoOpen q) = Unit {0}
LineNames P (line.Again q n) = P n
LineNames P (line.Reply q n body) = P n × ReplyNames P body
LineNames P (line.Scan s n p) = P n
LineNames P (line.NoScan s) = Unit {0}
LineNames P (line.Rescan s) = Unit {0}
LineNames P (line.Page s count) = Unit {0}
LineNames P (line.Scanned s n k p count) = P n
LineNames P (line.Record s d v) = Unit {0}
LineNames P (line.Unscanned s cause) = ScanCauseNames P cause
LineNames P _ = ⊥

abbrev pub AllName : (ℕ → Type 0) → List Line → Type 0
AllName P [] = Unit {0}
AllName P (l ∷ ls) = LineNames P l × AllName P ls
