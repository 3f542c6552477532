-- What is known of a node: a record of plain data, with a record for each of its parts.
use Rattle.std.specs.Prelude.{ℕ, nat_lt, ◌&&◌, Bool, true, List, [], Option, option_map}
use Rattle.conflict_order.specs.declared.policy.Policy.{Policy}
use Rattle.cluster_types.specs.declared.cluster_key.ClusterKey.{ClusterKey}
use Rattle.cluster_types.specs.declared.member.Member.{Member}
use Rattle.cluster_types.specs.declared.member.Role.{Role}
use Rattle.cluster_types.specs.MembersEqual.{same_members}
use Rattle.partition_lists.specs.Lists.{list, in_order}
use Rattle.node_rules.specs.Hearing.{Hearing, deaf}
use Rattle.node_rules.specs.Agreement.{Agreement, no_agreement}
use Rattle.node_rules.specs.Exchange.{Exchange, outside, exchange_key, members_of, is_view}
use Rattle.node_rules.specs.Copies.{Store, empty_store}
use Rattle.node_rules.specs.Stamps.{Writes, no_writes}
use Rattle.node_rules.specs.Transactions.{Transactions, no_transactions}
use Rattle.node_rules.specs.Batches.{Targets}
use Rattle.node_rules.specs.Bits.{Bits, no_bits}

-- all that the rules know of a node
pub record Facts : Type 0 where
  -- the node's id
  pub me : ℕ
  -- the other declared nodes, in rising order
  pub peers : List ℕ
  -- how many replicas a partition has
  pub factor : ℕ
  -- the node's rack, and whether it is quiesced
  pub role : Role
  -- whether it runs
  pub up : Bool
  pub hearing : Hearing
  pub agreement : Agreement
  pub exchange : Exchange
  pub store : Store
  pub writes : Writes
  pub transactions : Transactions
  pub batches : Targets
  pub bits : Bits

-- a node to which nothing has happened, beside those other nodes, in whatever order they were declared
abbrev pub fresh : ℕ → Role → List ℕ → ℕ → Policy → Facts
fresh me role peers factor by = record {
  me = me;
  peers = in_order nat_lt peers;
  factor = factor;
  role = role;
  up = true;
  hearing = deaf;
  agreement = no_agreement;
  exchange = outside;
  store = empty_store by;
  writes = no_writes;
  transactions = no_transactions;
  batches = [];
  bits = no_bits;
}

-- the key of the node's view, or none
abbrev pub view_key : Facts → ClusterKey
view_key f = exchange_key f.exchange.view

-- the members of the node's view; none without a view
abbrev pub members_of_view : Facts → List Member
members_of_view f = members_of f.exchange.view

-- the list of a partition over the members of the node's view
abbrev pub list_at : Facts → ℕ → List ℕ
list_at f p = list (members_of_view f) p

-- the key of the node's view with its members, if it has one
abbrev pub view_members : Facts → Option (ClusterKey × List Member)
view_members f = option_map (λ v. (v.key, v.members)) f.exchange.view

-- whether the node has finished the exchange of the view of that key, whose members are just these, with
-- these roles
abbrev pub has_exchanged_in : ClusterKey → List Member → Facts → Bool
has_exchanged_in key set f =
    f.exchange.exchanged && (is_view f.exchange.view key && same_members (members_of_view f) set)
