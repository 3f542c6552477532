-- What holds of the world after steps that are taken, as its nodes and its client take it.
use Rattle.std.specs.Prelude.{◌≡◌, ◌<◌, ◌+◌, ◌⊎◌, ℕ, nat_lt, true, List, Some, None, length, is_some, All, Contains}
use Rattle.conflict_order.specs.declared.want.Want.{Want}
use Rattle.cluster_types.specs.Partitions.{partition_count}
use Rattle.partition_lists.specs.Lists.{in_order}
use Rattle.wire_messages.specs.declared.message.Message.{Message}
use Rattle.wire_messages.specs.Decoding.{message_of}
use Rattle.wire_messages.specs.Requests.{IsWant}
use Rattle.wire_messages.specs.Versions.{IsDigest}
use Rattle.node_rules.specs.Client.{node_for}
use Rattle.node_rules.specs.Facts.{Facts}
use Rattle.node_rules.specs.Messages.{due_message, client}
use Rattle.node_rules.specs.Requests.{due_request}
use Rattle.node_rules.specs.Senders.{ComesFrom}
use Rattle.node_rules.specs.Stamps.{applies_at}
use Rattle.node_rules.specs.Tick.{due_tick}
use Rattle.node_rules.specs.Transactions.{transaction}
use Rattle.request_rules.specs.declared.taken.Asker.{Asker}
use Rattle.request_rules.specs.Requests.{Requests}
use Rattle.request_rules.specs.TakenUp.{bound_to}
use Rattle.cluster_rules.specs.Marks as marks
use Rattle.journal_readings.specs.Messages.{Posting}
use Rattle.cluster_rules.specs.Network.{posting_at}
use Rattle.cluster_rules.specs.NodeSteps.{AreRead}
use Rattle.cluster_rules.specs.Opening.{Header, declared_nodes, declared_peers}
use Rattle.cluster_rules.specs.Steps.{Step, all_marks, all_lines}
use Rattle.cluster_rules.specs.World.{World, opened, is_up}
use Rattle.run_laws.specs.Taken.{Taken, line_bound}

-- the world after the steps
abbrev pub world_after : Header → List Step → World
world_after h ss = marks.after_all (opened h) (all_marks ss)

-- it is so of the world after steps that are taken
abbrev pub OfTakenWorlds : (Header → World → Type 0) → Type 0
OfTakenWorlds P = (h : Header) (ss : List Step) → Taken h ss → P h (world_after h ss)

-- ---- nodes

-- each number's facts are its own, with the other declared nodes as its peers; and what runs is declared, so not the client
pub record KnowsNodes (h : Header) (w : World) : Type 0 where
  pub nodes : w.nodes ≡ declared_nodes h
  pub me : (n : ℕ) → (w.facts n).me ≡ n
  pub peers : (n : ℕ) → (w.facts n).peers ≡ in_order nat_lt (declared_peers h n)
  pub up : (n : ℕ) → is_up w n ≡ true → Contains (declared_nodes h) n
  pub client : (n : ℕ) → Contains (declared_nodes h) n → n ≡ client → ⊥

-- ---- messages

-- each message that was sent and is read as one comes so to its receiver
abbrev pub MessagesCome : Header → World → Type 0
MessagesCome h w =
    (i : ℕ) (p : Posting) (m : Message) → posting_at w.network i ≡ Some p
    → message_of p.bytes ≡ Some m → ComesFrom (w.facts p.to) p.from m

-- each was sent to a declared node, or to the client
abbrev pub HaveReceivers : Header → World → Type 0
HaveReceivers h w =
    (i : ℕ) (p : Posting) → posting_at w.network i ≡ Some p
    → (p.to ≡ client) ⊎ Contains (declared_nodes h) p.to

-- ---- the client

-- the node that the client asks for a partition is declared
abbrev pub AsksDeclared : Header → World → Type 0
AsksDeclared h w =
    (p n : ℕ) → p < partition_count → node_for w.tables p ≡ Some n → Contains (declared_nodes h) n

-- ---- requests of others

-- each open transaction that a node took up for somebody runs there, and none has the number of the next that opens
pub record BindsWhatRuns (h : Header) (w : World) : Type 0 where
  pub running : (n t : ℕ) (a : Asker) → bound_to (w.requests.at n).taken t ≡ Some a
      → is_some (transaction (w.facts n).transactions t) ≡ true
  pub next : (n : ℕ)
      → bound_to (w.requests.at n).taken ((w.facts n).transactions.opened + 1) ≡ None

-- ---- numbers

-- fewer transactions were opened in the view, fewer batches sent to each member, and fewer writes applied on each partition
pub record CountsBelow (limit : ℕ) (f : Facts) : Type 0 where
  pub transactions : f.transactions.opened < limit
  pub batches : All (λ t. t.batches < limit) f.batches
  pub applies : (p : ℕ) → applies_at f.writes p < limit

-- where there are fewer lines than that, no node has counted so far
abbrev pub CountsFew : Type 0
CountsFew =
    (h : Header) (ss : List Step)
    → Taken h ss → (limit : ℕ) → length (all_lines ss) < limit → (n : ℕ)
    → CountsBelow limit ((world_after h ss).facts n)

-- fewer requests were passed on in each node's view, fewer were sent by the client, and fewer scans begun
pub record RequestsBelow (limit : ℕ) (r : Requests) : Type 0 where
  pub passed : (n : ℕ) → (r.at n).passed.given < limit
  pub calls : r.calls.given < limit
  pub scans : r.scans.given < limit

-- where there are fewer lines than that, no number so great was given
abbrev pub NumbersFew : Type 0
NumbersFew =
    (h : Header) (ss : List Step)
    → Taken h ss → (limit : ℕ) → length (all_lines ss) < limit
    → RequestsBelow limit (world_after h ss).requests

-- ---- what is sent

-- what is due of a node is read as it was sent: of a tick, of a request that keeps its ranges, and of a message that was sent
pub record SendsAreRead (w : World) : Type 0 where
  pub tick : (n : ℕ) → is_up w n ≡ true → AreRead (due_tick (w.facts n)).sends
  pub request : (n : ℕ) (d : List ℕ) (q : Want) → IsDigest d → IsWant q
      → AreRead (due_request (w.facts n) (w.clocks n) d q).sends
  pub message : (i : ℕ) (p : Posting) (m : Message) → posting_at w.network i ≡ Some p
      → message_of p.bytes ≡ Some m → is_up w p.to ≡ true
      → AreRead (due_message (w.facts p.to) (w.clocks p.to) p.from m).sends

-- where a number is left for one line more
abbrev pub SendsRead : Type 0
SendsRead =
    (h : Header) (ss : List Step) → Taken h ss → length (all_lines ss) + 1 < line_bound
    → SendsAreRead (world_after h ss)
