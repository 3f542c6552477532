-- The byte that each kind of message begins with, and whether such a message takes memory.
use Rattle.std.specs.Prelude.{◌≡◌, ◌<◌, ◌≤◌, ℕ, Bool, true, false, List, ◌∷◌, Result, MatchResult}
use Rattle.wire_codec.specs.declared.kind.Kind.{Kind}
use Rattle.wire_codec.specs.declared.kind.Kind.TheVariants as kind
use Rattle.wire_codec.specs.declared.kind.UnknownKind.{UnknownKind}

abbrev pub byte_of : Kind → ℕ
byte_of kind.Heartbeat = 1
byte_of kind.Propose = 2
byte_of kind.Accept = 3
byte_of kind.Refuse = 4
byte_of kind.Commit = 5
byte_of kind.State = 6
byte_of kind.Batch = 7
byte_of kind.BatchAck = 8
byte_of kind.Progress = 9
byte_of kind.Repl = 10
byte_of kind.ReplAck = 11
byte_of kind.Ask = 12
byte_of kind.Answer = 13
byte_of kind.MapAsk = 14
byte_of kind.MapTable = 15
byte_of kind.HeartbeatWithRole = 16
byte_of kind.ProposeWithRoles = 17
byte_of kind.CommitWithRoles = 18
byte_of kind.Proxy = 19
byte_of kind.ProxyReply = 20
byte_of kind.Call = 21
byte_of kind.Reply = 22
byte_of kind.ScanAsk = 23
byte_of kind.ScanPage = 24
byte_of kind.ScanNo = 25

-- the kind that begins with this byte, or the byte where no kind does
abbrev pub IsKindOf : ℕ → Result Kind UnknownKind → Type 0
IsKindOf byte r =
    MatchResult r (λ k. byte_of k ≡ byte) (λ e. (e.0 ≡ byte) × ¬ ((0 < byte) × (byte ≤ 25)))

-- whether a message of the kind holds what takes memory: rows, a table, records, a version, or a value
abbrev pub takes_memory : Kind → Bool
takes_memory kind.Heartbeat = false
takes_memory kind.Propose = false
takes_memory kind.Accept = false
takes_memory kind.Refuse = false
takes_memory kind.Commit = false
takes_memory kind.State = true
takes_memory kind.Batch = true
takes_memory kind.BatchAck = false
takes_memory kind.Progress = true
takes_memory kind.Repl = true
takes_memory kind.ReplAck = false
takes_memory kind.Ask = false
takes_memory kind.Answer = true
takes_memory kind.MapAsk = false
takes_memory kind.MapTable = true
takes_memory kind.HeartbeatWithRole = false
takes_memory kind.ProposeWithRoles = false
takes_memory kind.CommitWithRoles = false
takes_memory kind.Proxy = true
takes_memory kind.ProxyReply = true
takes_memory kind.Call = true
takes_memory kind.Reply = true
takes_memory kind.ScanAsk = false
takes_memory kind.ScanPage = true
takes_memory kind.ScanNo = false

-- the bytes begin with a kind whose messages hold what takes memory
abbrev pub MayTakeMemory : List ℕ → Type 0
MayTakeMemory bytes =
    (kind : Kind) × (fields : List ℕ)
    × (bytes ≡ byte_of kind ∷ fields) × (takes_memory kind ≡ true)
