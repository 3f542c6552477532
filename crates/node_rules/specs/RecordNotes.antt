-- What transactions and the records that they write make of a node's facts.
use Rattle.std.specs.Prelude.{ℕ, ◌+◌, List, [], Option, Some, None}
use Rattle.std.specs.FinMap as finite
use Rattle.conflict_order.specs.declared.version.Version.{Version}
use Rattle.conflict_order.specs.declared.want.Want.{Want}
use Rattle.conflict_order.specs.declared.want.Want.TheVariants as want
use Rattle.conflict_order.specs.declared.want.Action.{Action}
use Rattle.conflict_order.specs.declared.want.Action.TheVariants as action
use Rattle.cluster_types.specs.declared.cluster_key.ClusterKey.{ClusterKey}
use Rattle.cluster_types.specs.Partitions.{partition_of}
use Rattle.node_rules.specs.Copies.{Store}
use Rattle.node_rules.specs.Facts.{Facts}
use Rattle.node_rules.specs.Stamps.{Writes, applying, applies_at, count_at, store_merged, store_applied}
use Rattle.node_rules.specs.Standing.{asked, is_master, other_replicas}
use Rattle.node_rules.specs.Transactions as transactions
use Rattle.node_rules.specs.Transactions.{Transaction}

-- what a request wants: the want in hand, and without one what its line tells
abbrev pub request_want : Option Want → Action → Want
request_want (Some w) a = w
request_want None action.Get = want.Get
request_want None action.Put = want.Put []
request_want None action.Del = want.Del

-- a transaction that opens now on a digest of the partition with that list
abbrev pub opening_transaction : Facts → List ℕ → ℕ → List ℕ → Want → Transaction
opening_transaction f l number digest w =
    transactions.new_transaction number digest w (finite.get f.store.content digest)
    (asked f l (partition_of digest))

-- a transaction opens
abbrev pub transaction_opened : Facts → List ℕ → ℕ → List ℕ → Want → Facts
transaction_opened f l number digest w = record f {
  transactions = transactions.opening f.transactions (opening_transaction f l number digest w);
}

-- a transaction is closed
abbrev pub closed : Facts → ℕ → Facts
closed f number = record f { transactions = transactions.without_transaction f.transactions number }

-- the number that the node's next write of the partition has in the view
abbrev pub next_nth : Facts → ℕ → ℕ
next_nth f p = applies_at f.writes p + 1

-- the store after the node applied a write under that key; these are the writes afterwards
abbrev pub applied_store : Facts → ClusterKey → List ℕ → List ℕ → Version → Writes → Store
applied_store f key l digest v w =
    store_applied f.store key digest v (count_at w (is_master f l) (partition_of digest))

-- the node applied the transaction's write: it counts, and each other replica is to acknowledge it
abbrev pub write_applied : Facts → ClusterKey → List ℕ → ℕ → List ℕ → Version → Facts
write_applied f key l number digest v = record f {
  store = applied_store f key l digest v (applying f.writes (partition_of digest));
  writes = applying f.writes (partition_of digest);
  transactions =
      transactions.changing f.transactions number
      (transactions.with_write v (next_nth f (partition_of digest)) (other_replicas f l));
}

-- a newer version came from another node
abbrev pub merged : Facts → ClusterKey → List ℕ → Version → Facts
merged f key digest v = record f { store = store_merged f.store key digest v }
