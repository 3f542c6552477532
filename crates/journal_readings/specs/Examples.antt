-- Short journals, at which the readings are known.
use Rattle.std.specs.Prelude.{ℕ, List, [], ◌∷◌, ◌++◌, replicate, Some, None}
use Rattle.conflict_order.specs.declared.version.Version.{Version}
use Rattle.conflict_order.specs.declared.version.Body.TheVariants as body
use Rattle.conflict_order.specs.declared.want.Action.TheVariants as action
use Rattle.cluster_types.specs.declared.cluster_key.ClusterKey.{ClusterKey}
use Rattle.cluster_types.specs.declared.member.Member.{Member}
use Rattle.cluster_types.specs.Members.{plain_member}
use Rattle.wire_messages.specs.declared.message.Message.TheVariants as message
use Rattle.wire_messages.specs.declared.message.Batch.{Batch}
use Rattle.wire_messages.specs.Spelling.{spelling}
use Rattle.journal_lines.specs.declared.line.Line.{Line}
use Rattle.journal_lines.specs.declared.line.Line.TheVariants as line

-- a digest of the last partition, 4095, whose list over nodes 1 and 2 is 2, 1
abbrev pub digest : List ℕ
digest = 255 ∷ 255 ∷ replicate 18 0

abbrev pub key : ℕ → ℕ → ClusterKey
key round principal = record { round = round; principal = principal }

abbrev pub version : ℕ → ℕ → ℕ → Version
version lut generation letter = record {
  lut = lut;
  generation = generation;
  body = body.Value (letter ∷ []);
}

abbrev pub one : List Member
one = plain_member 1 ∷ []

abbrev pub two : List Member
two = plain_member 2 ∷ []

abbrev pub both : List Member
both = plain_member 2 ∷ plain_member 1 ∷ []

-- the node enters a view of its own, with a write in it
abbrev pub alone : ℕ → ClusterKey → List Member → Version → List Line
alone n k ms v =
    line.Promise n k ∷ line.Enter n k ms ∷ line.Exchanged n k
    ∷ line.Opened n k 1 digest action.Put ∷ line.Apply n k 1 digest v ∷ line.Done n k 1 ∷ []

-- nodes 1 and 2 enter a view and finish exchange
abbrev pub together : ClusterKey → List Line
together k =
    line.Promise 2 k ∷ line.Promise 1 k ∷ line.Enter 1 k both ∷ line.Enter 2 k both
    ∷ line.Exchanged 1 k ∷ line.Exchanged 2 k ∷ []

-- ---- one node writes and reads

abbrev pub written : List Line
written =
    line.Node 1 None ∷ line.Tick 1 ∷ line.Tick 1 ∷ line.Tick 1
    ∷ alone 1 (key 1 1) one (version 0 1 97)
    ++ line.Opened 1 (key 1 1) 2 digest action.Get ∷ []

abbrev pub written_and_read : List Line
written_and_read = written ++ line.Value 1 (key 1 1) 2 digest (Some (version 0 1 97)) ∷ []

-- the world is said to be calm, though the node was marked since it entered its view
abbrev pub outdated : List Line
outdated = written_and_read ++ line.Quiesce 1 ∷ line.Calm 0 ∷ []

-- it reads something else
abbrev pub misread : List Line
misread = written ++ line.Value 1 (key 1 1) 2 digest (Some (version 0 1 98)) ∷ []

-- ---- two sides write one record and meet; one replica is kept of it

abbrev pub sides : List Line
sides =
    line.Factor 1 ∷ line.Node 1 None ∷ line.Node 2 None ∷ line.Clock 1 9
    ∷ alone 1 (key 3 1) one (version 9 1 97) ++ alone 2 (key 1 2) two (version 0 1 98)
    ++ together (key 4 2)

abbrev pub batch : Batch
batch = record { key = key 4 2; number = 1; records = (digest, version 9 1 97) ∷ [] }

-- node 1 has sent what it held to node 2, the only replica
abbrev pub batch_out : List Line
batch_out = sides ++ line.Sent 1 1 2 (spelling (message.Batch batch)) ∷ []

abbrev pub batch_merged : List Line
batch_merged =
    batch_out ++ line.Deliver 1 1 2 ∷ line.Merge 2 (key 4 2) digest (version 9 1 97)
    ∷ line.Sent 2 2 1 (spelling (message.BatchAck (key 4 2) 1)) ∷ []

abbrev pub batch_acked : List Line
batch_acked = batch_merged ++ line.Deliver 2 2 1 ∷ []

-- the partition is settled: node 2 knows that its copy is whole, and node 1 drops its own
abbrev pub settled : List Line
settled =
    batch_acked ++ line.Handed 1 (key 4 2) 4095 ∷ line.Settled 2 (key 4 2) 4095
    ∷ line.Learn 2 (key 4 2) 4095 ∷ line.Drop 1 (key 4 2) 4095 ∷ []

-- after it the world is calm
abbrev pub calmed : List Line
calmed = settled ++ line.Calm 9 ∷ []

-- the batch is acknowledged, and the partition settled, though what came wasn't merged
abbrev pub unmerged : List Line
unmerged =
    batch_out ++ line.Deliver 1 1 2 ∷ line.Sent 2 2 1 (spelling (message.BatchAck (key 4 2) 1))
    ∷ line.Deliver 2 2 1 ∷ line.Handed 1 (key 4 2) 4095 ∷ line.Settled 2 (key 4 2) 4095 ∷ []

-- node 1 drops its copy before it has handed it on
abbrev pub lost : List Line
lost = sides ++ line.Drop 1 (key 4 2) 4095 ∷ []

-- the world is said to be calm, though node 2 still lacks what node 1 has
abbrev pub uneasy : List Line
uneasy = sides ++ line.Calm 9 ∷ []

-- node 2 names itself as the one that acts
abbrev pub misled : List Line
misled = sides ++ line.Map 2 (key 4 2) 4095 both 2 ∷ []

-- ---- a write is replicated, and the members come to the next view with equal copies

abbrev pub applied_once : List Line
applied_once =
    line.Factor 2 ∷ line.Node 1 None ∷ line.Node 2 None
    ∷ together (key 1 2)
    ++ line.Opened 2 (key 1 2) 1 digest action.Put
    ∷ line.Apply 2 (key 1 2) 1 digest (version 0 1 97)
    ∷ line.Sent 1 2 1 (spelling (message.Repl (key 1 2) 1 1 digest (version 0 1 97))) ∷ []

abbrev pub replicated : List Line
replicated =
    applied_once ++ line.Deliver 1 2 1 ∷ line.Merge 1 (key 1 2) digest (version 0 1 97)
    ∷ line.Sent 2 1 2 (spelling (message.ReplAck (key 1 2) 1)) ∷ line.Deliver 2 1 2
    ∷ line.Done 2 (key 1 2) 1 ∷ []

abbrev pub met_again : List Line
met_again = replicated ++ together (key 2 2)

-- the world is said to be calm, though the partition isn't settled
abbrev pub unsettled : List Line
unsettled = met_again ++ line.Calm 5 ∷ []

-- the write was lost on its way, and the node that wrote it left the view in doubt
abbrev pub met_unequal : List Line
met_unequal = applied_once ++ line.Lost 1 ∷ line.Doubt 2 (key 1 2) 1 ∷ together (key 2 2)

-- the replica merged another version than the one that came
abbrev pub garbled : List Line
garbled =
    applied_once ++ line.Deliver 1 2 1 ∷ line.Merge 1 (key 1 2) digest (version 0 1 98)
    ∷ together (key 2 2)

-- a key is promised and entered twice
abbrev pub reused : List Line
reused = together (key 1 2) ++ together (key 1 2)

-- node 1 accepts a key that its principal hasn't promised
abbrev pub unpromised : List Line
unpromised = together (key 1 2) ++ line.Sent 1 1 2 (spelling (message.Accept (key 2 2))) ∷ []

-- a view is committed with other members than those that entered it
abbrev pub two_lists : List Line
two_lists = together (key 1 2) ++ line.Sent 1 2 1 (spelling (message.Commit (key 1 2) two)) ∷ []

-- node 2 proposes a view to node 1, which accepts, and both enter it
abbrev pub agreed : List Line
agreed =
    line.Node 1 None ∷ line.Node 2 None
    ∷ line.Promise 2 (key 1 2) ∷ line.Sent 1 2 1 (spelling (message.Propose (key 1 2) both))
    ∷ line.Deliver 1 2 1
    ∷ line.Promise 1 (key 1 2) ∷ line.Sent 2 1 2 (spelling (message.Accept (key 1 2)))
    ∷ line.Deliver 2 1 2
    ∷ line.Enter 2 (key 1 2) both ∷ line.Sent 3 2 1 (spelling (message.Commit (key 1 2) both))
    ∷ line.Deliver 3 2 1
    ∷ line.Enter 1 (key 1 2) both ∷ []

-- both nodes show their map of the partition
abbrev pub shown : List Line
shown =
    line.Factor 2 ∷ line.Node 1 None ∷ line.Node 2 None
    ∷ together (key 1 2)
    ++ line.Map 1 (key 1 2) 4095 both 2 ∷ line.Map 2 (key 1 2) 4095 both 2 ∷ []

-- ---- two writes, of which the first was lost on its way

-- another digest of the partition
abbrev pub second : List ℕ
second = 255 ∷ 255 ∷ replicate 17 0 ++ 1 ∷ []

abbrev pub first_lost : List Line
first_lost =
    applied_once
    ++ line.Opened 2 (key 1 2) 2 second action.Put
    ∷ line.Apply 2 (key 1 2) 2 second (version 0 1 98)
    ∷ line.Sent 2 2 1 (spelling (message.Repl (key 1 2) 2 2 second (version 0 1 98)))
    ∷ line.Deliver 2 2 1 ∷ line.Merge 1 (key 1 2) second (version 0 1 98) ∷ line.Lost 1
    ∷ line.Doubt 2 (key 1 2) 1 ∷ line.Doubt 2 (key 1 2) 2 ∷ together (key 2 2)

-- ---- roles

abbrev pub marked : List Line
marked =
    line.Node 1 None ∷ line.Node 3 (Some 2) ∷ line.Node 2 (Some 2) ∷ line.Quiesce 3 ∷ line.Quiesce 1
    ∷ line.Stop 1 ∷ line.Unquiesce 1 ∷ []
