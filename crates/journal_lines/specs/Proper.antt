-- The lines that a run can have: each part keeps its range.
use Rattle.std.specs.Prelude.{ℕ, ◌<◌, ◌≤◌, ◌^◌, ◌⊎◌, ◌≡◌, true, false, List, All}
use Rattle.cluster_types.specs.Groups.{AreGroups}
use Rattle.cluster_types.specs.Members.{AreDistinctMembers}
pub use Rattle.cluster_types.specs.Ranges.{IsByte, IsLong, IsPartition, IsRack}
use Rattle.cluster_types.specs.declared.cluster_key.ClusterKey.{ClusterKey}
use Rattle.cluster_types.specs.declared.member.Member.{Member}
use Rattle.wire_messages.specs.Keys.{IsKeyField}
use Rattle.wire_messages.specs.Nodes.{IsId, FitsMember, AreMembersField}
use Rattle.wire_messages.specs.Numbers.{IsNumber}
use Rattle.wire_messages.specs.Requests.{IsReplyBody, IsRefusal}
use Rattle.wire_messages.specs.Versions.{AreBytes, IsDigest, IsVersion, IsOptionVersion}
use Rattle.journal_lines.specs.declared.refusal.Refusal.{Refusal}
use Rattle.journal_lines.specs.declared.refusal.Refusal.TheVariants as refusal
use Rattle.journal_lines.specs.declared.line.Line.{Line}
use Rattle.journal_lines.specs.declared.line.Line.TheVariants as line

-- a node's id, or 0 for the client
abbrev pub IsEndpoint : ℕ → Type 0
IsEndpoint n = n < 2 ^ 16

-- groups of nodes that have ids
pub record AreIdGroups (groups : List (List ℕ)) : Type 0 where
  pub divide : AreGroups groups
  pub fit : All (λ ids. All IsId ids) groups

-- members in any order, with ids and racks
pub record AreListed (members : List Member) : Type 0 where
  pub distinct : AreDistinctMembers members
  pub fit : All FitsMember members

-- a message on its way
pub record IsPassage (i a b : ℕ) : Type 0 where
  pub message : IsLong i
  pub from : IsEndpoint a
  pub to : IsEndpoint b

-- a node in a view
pub record IsPlace (n : ℕ) (k : ClusterKey) : Type 0 where
  pub node : IsId n
  pub key : IsKeyField k

abbrev pub IsCause : Refusal → Type 0
IsCause refusal.Down = Unit {0}
IsCause refusal.NoView = Unit {0}
IsCause (refusal.Exchanging n) = IsId n
IsCause (refusal.NotMaster n) = IsId n
IsCause (refusal.Busy t) = IsNumber t

-- why a node has no map
abbrev pub IsMapless : Refusal → Type 0
IsMapless refusal.Down = Unit {0}
IsMapless refusal.NoView = Unit {0}
IsMapless (refusal.Exchanging n) = IsId n
IsMapless (refusal.NotMaster n) = ⊥
IsMapless (refusal.Busy t) = ⊥

-- the facts of each line stand in the order of its fields
abbrev pub IsProper : Line → Type 0
IsProper (line.Script v) = (v ≡ 1) ⊎ (v ≡ 2)
IsProper (line.Factor f) = (1 ≤ f) × (f ≤ 4)
IsProper (line.Node n rack) = IsId n × IsRack rack
IsProper (line.Policy p) = Unit {0}
IsProper (line.Clock n t) = IsId n × IsLong t
IsProper (line.Groups groups) = AreIdGroups groups
IsProper (line.Tick n) = IsId n
IsProper (line.Stop n) = IsId n
IsProper (line.Start n) = IsId n
IsProper (line.Down n) = IsId n
IsProper (line.Up n) = IsId n
IsProper (line.Quiesce n) = IsId n
IsProper (line.Unquiesce n) = IsId n
IsProper (line.Deliver i a b) = IsPassage i a b
IsProper (line.Repeat i a b) = IsPassage i a b
IsProper (line.Cut i a b len) = IsPassage i a b × IsLong len
IsProper (line.Lost i) = IsLong i
IsProper (line.Blocked i) = IsLong i
IsProper (line.NoMessage i) = IsLong i
IsProper (line.Sent i a b bytes) = IsPassage i a b × AreBytes bytes
IsProper (line.Full i) = IsLong i
IsProper (line.Short b) = IsEndpoint b
IsProper (line.Stale b) = IsEndpoint b
IsProper (line.Spent b) = IsEndpoint b
IsProper (line.Promise n k) = IsPlace n k
IsProper (line.Enter n k members) = IsPlace n k × AreMembersField members
IsProper (line.Exchanged n k) = IsPlace n k
IsProper (line.Opened n k t d a) = IsPlace n k × IsNumber t × IsDigest d
IsProper (line.Refused n d cause) = IsId n × IsDigest d × IsCause cause
IsProper (line.Value n k t d v) = IsPlace n k × IsNumber t × IsDigest d × IsOptionVersion v
IsProper (line.Apply n k t d v) = IsPlace n k × IsNumber t × IsDigest d × IsVersion v
IsProper (line.Done n k t) = IsPlace n k × IsNumber t
IsProper (line.Aborted n k t) = IsPlace n k × IsNumber t
IsProper (line.Doubt n k t) = IsPlace n k × IsNumber t
IsProper (line.Merge n k d v) = IsPlace n k × IsDigest d × IsVersion v
IsProper (line.Handed n k p) = IsPlace n k × IsPartition p
IsProper (line.Settled n k p) = IsPlace n k × IsPartition p
IsProper (line.Learn n k p) = IsPlace n k × IsPartition p
IsProper (line.Drop n k p) = IsPlace n k × IsPartition p
IsProper (line.Map n k p members acting) =
    IsPlace n k × IsPartition p × AreListed members × IsId acting
IsProper (line.Mapless n cause) = IsId n × IsMapless cause
IsProper (line.Place p members) = IsPartition p × AreListed members
IsProper (line.Hash d p) = IsDigest d × IsPartition p
IsProper (line.Holds n d v) = IsId n × IsDigest d × IsOptionVersion v
IsProper (line.Client n d) = IsId n × IsDigest d
IsProper (line.NoMap p) = IsPartition p
IsProper (line.Table k) = IsKeyField k
IsProper (line.Calm rounds) = IsLong rounds
IsProper (line.Proxy n k x d a acting) = IsPlace n k × IsNumber x × IsDigest d × IsId acting
IsProper (line.Proxied n k x reply) = IsPlace n k × IsNumber x × IsReplyBody false reply
IsProper (line.Unproxied n k x) = IsPlace n k × IsNumber x
IsProper line.CallFull = Unit {0}
IsProper (line.Call q n d a) = IsNumber q × IsId n × IsDigest d
IsProper (line.NoOpen q) = IsLong q
IsProper (line.Again q n) = IsNumber q × IsId n
IsProper (line.Reply q n reply) = IsNumber q × IsId n × IsReplyBody true reply
IsProper (line.Scan s n p) = IsNumber s × IsId n × IsPartition p
IsProper (line.NoScan s) = IsLong s
IsProper (line.Rescan s) = IsNumber s
IsProper (line.Page s count) = IsNumber s × (count < 2 ^ 32)
IsProper (line.Scanned s n k p count) = IsNumber s × IsPlace n k × IsPartition p × IsLong count
IsProper (line.Record s d v) = IsNumber s × IsDigest d × IsVersion v
IsProper (line.Unscanned s cause) = IsNumber s × IsRefusal cause
