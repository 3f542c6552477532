-- Two sides that meet: how a record of the partition 0 comes to be settled, step by step. A node is walked on by
-- its facts and effects; messages arrive as they were sent, without their bytes, and one partition is walked over.
use Rattle.std.specs.Prelude.{ℕ, Bool, true, false, List, [], ◌∷◌, Some, None}
use Rattle.std.specs.FinMap as finite
use Rattle.conflict_order.specs.declared.policy.Policy.TheVariants.{Time}
use Rattle.conflict_order.specs.declared.version.Version.{Version}
use Rattle.cluster_types.specs.declared.copy_state.CopyState.TheVariants.{Whole}
use Rattle.cluster_types.specs.Members.{plain_role}
use Rattle.wire_messages.specs.declared.message.Message.{Message}
use Rattle.wire_messages.specs.declared.message.Message.TheVariants as message
use Rattle.journal_lines.specs.declared.line.Line.{Line}
use Rattle.journal_lines.specs.declared.line.Line.TheVariants as line
use Rattle.node_rules.specs.declared.beat.Beat.{Beat}
use Rattle.node_rules.specs.declared.member_row.MemberRow.{MemberRow}
use Rattle.node_rules.specs.Batches.{new_target}
use Rattle.node_rules.specs.Effects.{Effects, to_one}
use Rattle.node_rules.specs.Examples.{key, zeros, two, eight, row_of, migrating}
use Rattle.node_rules.specs.Facts.{Facts}
use Rattle.node_rules.specs.Notes.{reached}
use Rattle.node_rules.specs.Steps.{facts_after}
use Rattle.node_rules.specs.Tick.{progress_message}
use Rattle.journal_readings.specs.Examples.{version}

-- ---- the two sides

-- node 1 wrote the first under 1.1, and node 2 the second, which is newer, under 1.2
abbrev pub older : Version
older = version 0 1 97

abbrev pub newer : Version
newer = version 0 1 98

-- both copies are whole, by different views
abbrev pub both_whole : List MemberRow
both_whole = row_of 1 0 (Whole (key 1 1) 1) ∷ row_of 2 0 (Whole (key 1 2) 1) ∷ []

-- what a member of view 2.2 beats that hears these nodes
abbrev pub beat_in_view : List ℕ → Beat
beat_in_view hears = record {
  view = key 2 2;
  promised = key 2 2;
  hears = hears;
  role = plain_role;
}

-- one of the sides, which has finished the exchange of 2.2, hears the other and has its record pending
abbrev pub side : ℕ → ℕ → Version → Facts
side me other v = record (migrating me other both_whole false false) {
  hearing = record {
    heard = (other, record { age = 0; beat = beat_in_view (me ∷ []) }) ∷ [];
    set = Some two;
    quiet = 2;
  };
  agreement = record { promised = key 2 2; last = key 2 2; proposal = None; seen = 2 };
  store = record { content = finite.insert finite.empty zeros v; stamps = finite.empty; by = Time };
  batches = new_target other (zeros ∷ []) ∷ [];
}

-- ---- what they send

abbrev pub batch_of : Version → Message
batch_of v = message.Batch (record { key = key 2 2; number = 1; records = (zeros, v) ∷ [] })

abbrev pub ack : Message
ack = message.BatchAck (key 2 2) 1

-- a heartbeat of a side that hears that node
abbrev pub hearing : ℕ → Message
hearing other = message.Heartbeat (key 2 2) (key 2 2) (other ∷ []) plain_role

-- a side tells whether it is done
abbrev pub telling : Bool → Message
telling done = message.Progress (key 2 2) true (done ∷ []) (eight false) (eight false)

-- a tick at which the side sends its batch to the other
abbrev pub handing_on : ℕ → ℕ → Version → Effects
handing_on me other v = record {
  lines = line.Tick me ∷ [];
  sends = (other, hearing other) ∷ (other, batch_of v) ∷ (other, telling false) ∷ [];
}

-- a tick at which it tells that it is done
abbrev pub being_done : ℕ → ℕ → Effects
being_done me other = record {
  lines = line.Tick me ∷ [];
  sends = (other, hearing other) ∷ (other, telling true) ∷ [];
}

-- a tick with these lines, at which it tells no more
abbrev pub resting : ℕ → List Line → Effects
resting other ls = record { lines = ls; sends = (other, hearing other) ∷ [] }

abbrev pub acking : ℕ → List Line → Effects
acking other ls = record { lines = ls; sends = to_one other ack }

-- ---- without a loss

-- both have sent their batches
abbrev pub one_sent : Facts
one_sent = facts_after None (side 1 2 older) (handing_on 1 2 older)

abbrev pub two_sent : Facts
two_sent = facts_after None (side 2 1 newer) (handing_on 2 1 newer)

-- both have the other's batch: node 1 has merged the newer version
abbrev pub merge : List Line
merge = line.Merge 1 (key 2 2) zeros newer ∷ []

abbrev pub one_has : Facts
one_has = facts_after None (reached one_sent 2 (batch_of newer)) (acking 2 merge)

abbrev pub two_has : Facts
two_has = facts_after None (reached two_sent 1 (batch_of older)) (acking 1 [])

-- both have the other's acknowledgement
abbrev pub one_done : Facts
one_done = reached one_has 2 ack

abbrev pub two_done : Facts
two_done = reached two_has 1 ack

-- node 2, the list master, knows node 1 done, settles the partition and learns it
abbrev pub two_knows : Facts
two_knows = reached two_done 1 (telling true)

abbrev pub settle : List Line
settle = line.Tick 2 ∷ line.Settled 2 (key 2 2) 0 ∷ line.Learn 2 (key 2 2) 0 ∷ []

abbrev pub two_rests : Facts
two_rests = facts_after None two_knows (resting 1 settle)

-- node 1 hears of it, and learns it too
abbrev pub one_knows : Facts
one_knows = reached one_done 2 (progress_message 1 two_rests false)

abbrev pub learn : List Line
learn = line.Tick 1 ∷ line.Learn 1 (key 2 2) 0 ∷ []

abbrev pub one_rests : Facts
one_rests = facts_after None one_knows (resting 2 learn)

-- ---- with losses

-- node 1's batch was lost, and it sent it again; that one arrived, but its acknowledgement was lost, and it sent
-- it a third time
abbrev pub one_again : Facts
one_again = facts_after None one_sent (handing_on 1 2 older)

abbrev pub one_third : Facts
one_third = facts_after None one_again (handing_on 1 2 older)

-- it has arrived twice
abbrev pub two_twice : Facts
two_twice = facts_after None (reached two_has 1 (batch_of older)) (acking 1 [])

-- and was acknowledged
abbrev pub one_acked : Facts
one_acked = reached one_third 2 ack
