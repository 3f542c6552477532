-- The world of a run: the nodes, the network and the client.
use Rattle.std.specs.Prelude.{ℕ, nat_lt, Bool, if◌then◌else◌, List, [], map, filter, Option, None}
use Rattle.conflict_order.specs.declared.want.Want.{Want}
use Rattle.cluster_types.specs.declared.member.Member.{Member}
pub use Rattle.cluster_types.specs.Changed.{at_number as changed_at}
use Rattle.partition_lists.specs.Lists.{in_order}
use Rattle.node_rules.specs.Facts.{Facts, fresh}
use Rattle.request_rules.specs.declared.taken.Asker.{Asker}
use Rattle.request_rules.specs.Requests.{Requests, no_requests_yet}
use Rattle.cluster_rules.specs.declared.event.Event.{Event}
use Rattle.node_rules.specs.Client.{Tables}
use Rattle.journal_readings.specs.Lines.{has_node}
use Rattle.cluster_rules.specs.Network.{Network, silent}
use Rattle.cluster_rules.specs.Opening.{Header, declared_factor, declared_policy, declared_nodes, declared_role, declared_peers}

-- ---- a value for each number

-- the new value where the test holds, and otherwise that of the function: so a function with another value at one
-- number is read (`changed_at`)
abbrev pub new_if : {A : Type 0} → A → (ℕ → A) → ℕ → Bool → A
new_if new f m b = if b then new else f m

-- ---- the world

pub record World : Type 0 where
  -- the declared nodes, in the order in which they were declared
  pub nodes : List ℕ
  -- what is known of each node
  pub facts : ℕ → Facts
  -- where each node's clock stands
  pub clocks : ℕ → ℕ
  pub network : Network
  -- the client's tables
  pub tables : Tables
  -- the event whose step is in progress; none before the first
  pub event : Option Event
  -- what the request wants that is in hand: that of the event, or of the message that the event brings
  pub want : Option Want
  -- who asks for the request that is in hand, where a message brings it
  pub asker : Option Asker
  -- what is kept of requests that come or go as messages
  pub requests : Requests

-- a node as the header declares it; a number that it doesn't declare is down
abbrev pub declared : Header → ℕ → Facts
declared h n =
    record (fresh n (declared_role h n) (declared_peers h n) (declared_factor h)
    (declared_policy h)) { up = has_node (declared_nodes h) n }

-- the world that a header declares: all nodes run with empty stores, all clocks stand at 0, and nothing was sent
abbrev pub opened : Header → World
opened h = record {
  nodes = declared_nodes h;
  facts = declared h;
  clocks = λ n. 0;
  network = silent (declared_nodes h);
  tables = [];
  event = None;
  want = None;
  asker = None;
  requests = no_requests_yet;
}

-- the world with these facts of one node
abbrev pub with_facts : World → ℕ → Facts → World
with_facts w n f = record w { facts = changed_at w.facts n f }

-- whether the node is up
abbrev pub is_up : World → ℕ → Bool
is_up w n = (w.facts n).up

-- the nodes that are up, in rising order
abbrev pub up_nodes : World → List ℕ
up_nodes w = in_order nat_lt (filter (is_up w) w.nodes)

-- the node with the role that it now has
abbrev pub member_now : World → ℕ → Member
member_now w n = record { id = n; role = (w.facts n).role }

-- these nodes with their roles
abbrev pub members_now : World → List ℕ → List Member
members_now w ns = map (member_now w) ns
