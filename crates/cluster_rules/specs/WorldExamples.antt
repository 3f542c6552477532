-- Scripts, worlds and journals that are known.
use Rattle.std.specs.Prelude.{ℕ, Bool, List, [], ◌∷◌, ◌++◌, map, Some, None}
use Rattle.conflict_order.specs.declared.policy.Policy.TheVariants.{Generation}
use Rattle.conflict_order.specs.declared.want.Want.{Want}
use Rattle.conflict_order.specs.declared.want.Action.TheVariants as action
use Rattle.cluster_types.specs.declared.cluster_key.ClusterKey.{ClusterKey}
use Rattle.cluster_types.specs.ClusterKeys.{none}
use Rattle.cluster_types.specs.Members.{plain_role}
use Rattle.wire_messages.specs.declared.message.MapTable.{MapTable}
use Rattle.wire_messages.specs.declared.message.Message.TheVariants as message
use Rattle.wire_messages.specs.Spelling.{spelling}
use Rattle.script_lang.specs.declared.script.HeaderLine.TheVariants as header
use Rattle.script_lang.specs.declared.script.Command.TheVariants as command
use Rattle.script_lang.specs.declared.script.Script.{Script}
use Rattle.journal_lines.specs.declared.line.Line.{Line}
use Rattle.journal_lines.specs.declared.line.Line.TheVariants as line
use Rattle.node_rules.specs.Examples.{key, itself, zeros, hi, first_hi, two}
use Rattle.cluster_rules.specs.declared.event.Event.{Event}
use Rattle.cluster_rules.specs.declared.event.Event.TheVariants as event
use Rattle.cluster_rules.specs.Marks.{Begins, Writes, after_all}
use Rattle.cluster_rules.specs.Opening.{Header}
use Rattle.cluster_rules.specs.Steps.{play, play_all, rounds}
use Rattle.cluster_rules.specs.World.{World, opened}

-- ---- one node puts and gets

abbrev pub one_node : Script
one_node = record {
  header = header.Node 1 None ∷ [];
  commands =
      command.Tick 1 ∷ command.Tick 1 ∷ command.Tick 1 ∷ command.Put 1 zeros hi
      ∷ command.Get 1 zeros ∷ [];
}

abbrev pub entering_lines : List Line
entering_lines =
    line.Tick 1 ∷ line.Promise 1 (key 1 1) ∷ line.Enter 1 (key 1 1) itself
    ∷ line.Exchanged 1 (key 1 1) ∷ []

abbrev pub put_lines : List Line
put_lines =
    line.Opened 1 (key 1 1) 1 zeros action.Put ∷ line.Apply 1 (key 1 1) 1 zeros first_hi
    ∷ line.Done 1 (key 1 1) 1 ∷ []

abbrev pub get_lines : List Line
get_lines =
    line.Opened 1 (key 1 1) 2 zeros action.Get ∷ line.Value 1 (key 1 1) 2 zeros (Some first_hi) ∷ []

-- its transcript
abbrev pub one_node_journal : List Line
one_node_journal =
    line.Node 1 None ∷ line.Tick 1 ∷ line.Tick 1 ∷ entering_lines ++ (put_lines ++ get_lines)

-- ---- two nodes agree on a view

abbrev pub two_nodes : Header
two_nodes = header.Factor 2 ∷ header.Node 1 None ∷ header.Node 2 None ∷ []

abbrev pub beat : ℕ → List ℕ → ℕ → ℕ → Line
beat i hears a b = line.Sent i a b (spelling (message.Heartbeat none none hears plain_role))

-- a round in which both nodes tick and hear each other, where so many messages were sent before it
abbrev pub beats : ℕ → ℕ → List ℕ → List ℕ → List Line
beats i o one_hears two_hears =
    line.Tick 1 ∷ beat i one_hears 1 2 ∷ line.Tick 2 ∷ beat o two_hears 2 1 ∷ line.Deliver i 1 2
    ∷ line.Deliver o 2 1 ∷ []

-- the round in which they agree
abbrev pub agreeing : List Line
agreeing =
    line.Tick 1 ∷ beat 9 (2 ∷ []) 1 2
    ∷ line.Tick 2 ∷ line.Promise 2 (key 1 2) ∷ beat 10 (1 ∷ []) 2 1
    ∷ line.Sent 11 2 1 (spelling (message.Propose (key 1 2) two))
    ∷ line.Deliver 9 1 2 ∷ line.Deliver 10 2 1
    ∷ line.Deliver 11 2 1 ∷ line.Promise 1 (key 1 2)
    ∷ line.Sent 12 1 2 (spelling (message.Accept (key 1 2)))
    ∷ line.Deliver 12 1 2 ∷ line.Enter 2 (key 1 2) two
    ∷ line.Sent 13 2 1 (spelling (message.Commit (key 1 2) two))
    ∷ line.Deliver 13 2 1 ∷ line.Enter 1 (key 1 2) two ∷ []

-- ---- a message under way

-- node 1 has sent its first heartbeat to node 2
abbrev pub beaten : World
beaten = (play 0 (event.Tick 1) (opened two_nodes)).world

-- the nodes are in two groups since
abbrev pub split : World
split = (play 0 (event.Groups ((1 ∷ []) ∷ (2 ∷ []) ∷ [])) beaten).world

-- or node 2 is stopped
abbrev pub halved : World
halved = (play 0 (event.Stop 2) beaten).world

-- ---- one node comes to calm, twice

abbrev pub calm_twice : Script
calm_twice = record {
  header = header.Node 1 None ∷ [];
  commands = command.Calm ∷ command.Calm ∷ [];
}

abbrev pub calm_twice_journal : List Line
calm_twice_journal =
    line.Node 1 None ∷ line.Tick 1 ∷ line.Tick 1 ∷ entering_lines ++ line.Calm 3 ∷ line.Calm 0 ∷ []

-- ---- the client's tables

-- a table of the partition 0 alone
abbrev pub table : ClusterKey → ℕ → Bool → MapTable
table k n moved = record { key = k; ids = n ∷ []; moved = moved ∷ [] }

-- a world in which those tables reached the client
abbrev pub told : List MapTable → World
told tables = record (opened two_nodes) { tables = tables }

-- ---- racks and quiesced nodes

abbrev pub racked : Header
racked =
    header.Node 2 (Some 7) ∷ header.Policy Generation ∷ header.Node 1 None ∷ header.Factor 3 ∷ []

-- node 2 is quiesced
abbrev pub leaving : World
leaving = (play 0 (event.Quiesce 2) (opened two_nodes)).world

-- ---- two sides meet

abbrev pub apart : List Event
apart =
    event.Groups ((1 ∷ []) ∷ (2 ∷ []) ∷ [])
    ∷ event.Tick 1 ∷ event.Tick 1 ∷ event.Tick 1 ∷ event.Tick 2 ∷ event.Tick 2 ∷ event.Tick 2
    ∷ []

-- each node is in a view of its own, and six heartbeats are in flight
abbrev pub parted : World
parted = (play_all 0 apart (opened two_nodes)).world

-- they are in one group again and have heard each other for four rounds
abbrev pub hearing : World
hearing = (rounds 0 4 (play 0 (event.Groups ((1 ∷ 2 ∷ []) ∷ [])) parted).world).world

-- node 2 proposes a view of both, and node 1 accepts it
abbrev pub proposing : List Event
proposing = event.Tick 1 ∷ event.Tick 2 ∷ event.Deliver 17 ∷ []

abbrev pub proposed : List Line
proposed =
    line.Tick 1
    ∷ line.Sent 15 1 2 (spelling (message.Heartbeat (key 1 1) (key 1 1) (2 ∷ []) plain_role))
    ∷ line.Tick 2 ∷ line.Promise 2 (key 2 2)
    ∷ line.Sent 16 2 1 (spelling (message.Heartbeat (key 1 2) (key 1 2) (1 ∷ []) plain_role))
    ∷ line.Sent 17 2 1 (spelling (message.Propose (key 2 2) two))
    ∷ line.Deliver 17 2 1 ∷ line.Promise 1 (key 2 2)
    ∷ line.Sent 18 1 2 (spelling (message.Accept (key 2 2)))
    ∷ []

-- node 2 enters it; its Commit comes to node 1, which is then stopped and started, and comes again
abbrev pub committing : List Event
committing =
    event.Deliver 18 ∷ event.Repeat 19 ∷ event.Stop 1 ∷ event.Start 1 ∷ event.Deliver 19 ∷ []

abbrev pub committed : List Line
committed =
    line.Deliver 18 1 2 ∷ line.Enter 2 (key 2 2) two
    ∷ line.Sent 19 2 1 (spelling (message.Commit (key 2 2) two))
    ∷ line.Repeat 19 2 1 ∷ line.Enter 1 (key 2 2) two
    ∷ line.Stop 1 ∷ line.Start 1 ∷ line.Deliver 19 2 1 ∷ line.Stale 1
    ∷ []

-- the six heartbeats are lost
abbrev pub parted_and_quiet : World
parted_and_quiet = (play_all 0 (map event.Lose (1 ∷ 2 ∷ 3 ∷ 4 ∷ 5 ∷ 6 ∷ [])) parted).world

-- ---- two nodes that are never calm

-- it names no node, so no round ticks the two that run in its group
abbrev pub unticked : World
unticked = record (opened two_nodes) { nodes = [] }

-- ---- a lone node in its view

abbrev pub alone : World
alone = (rounds 0 3 (opened one_node.header)).world

-- the world in which that happened next
abbrev pub next : Event → World → World
next e w = (play 0 e w).world

-- a request on that digest is accepted, as the event's step says so
abbrev pub accepting : Event → World
accepting e = after_all alone (Begins e ∷ Writes (line.Opened 1 (key 1 1) 1 zeros action.Put) ∷ [])

-- what the node's open transactions want
abbrev pub wants : World → List Want
wants w = map (λ t. t.want) (w.facts 1).transactions.running
