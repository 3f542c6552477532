-- When the parts of a world in memory are those of a world.
use Rattle.std.specs.Prelude.{◌≡◌, ℕ, nat_lt, List, [], ◌∷◌, length, map, Option, Some, None, All}
use Rattle.partition_lists.specs.Lists.{in_order}
use Rattle.net_script.specs.declared.net.Flying.{Flying}
use Rattle.net_script.specs.Network as nets
use Rattle.net_script.specs.Network.{flying_ids}
use Rattle.client_map.specs.declared.client_map.Entry.{Entry}
use Rattle.client_map.specs.Entries.{Holds}
use Rattle.node_rules.specs.Steps.{Planning}
use Rattle.journal_readings.specs.Messages.{Posting}
use Rattle.cluster_rules.specs.Network.{Network, posting_at}
use Rattle.cluster_rules.specs.World.{World}

-- the message as it was sent
abbrev pub flying_posting : Flying → Posting
flying_posting m = record { from = m.from; to = m.to; bytes = m.bytes }

-- the groups that were set are these; none were set where no node is declared
abbrev pub AreDivided : Option (List (List ℕ)) → List (List ℕ) → Type 0
AreDivided None groups = groups ≡ [] ∷ []
AreDivided (Some set) groups = set ≡ groups

-- the messages in flight are those of that network, by their numbers, and so are the groups
pub record IsNetwork (net : nets.NetworkState) (n : Network) : Type 0 where
  pub sent : net.sent ≡ length n.sent
  pub numbers : flying_ids net.flying ≡ n.flying
  pub postings : All (λ e. posting_at n e.0 ≡ Some (flying_posting e.1)) net.flying
  pub groups : AreDivided net.groups n.groups

-- ids in rising order with the node and the clock of each, the network and the client's map are those of the world
pub record Stands (w : World) (ids : List ℕ) (nodes : List Planning) (clocks : List ℕ)
    (net : nets.NetworkState) (client : List (Option Entry)) : Type 0 where
  pub declared : ids ≡ in_order nat_lt w.nodes
  pub facts : map (λ node. node.now) nodes ≡ map w.facts ids
  pub times : clocks ≡ map w.clocks ids
  pub network : IsNetwork net w.network
  pub tables : Holds w.tables client
