-- What entering a view and finishing its exchange make of a node's facts.
use Rattle.std.specs.Prelude.{ℕ, zero, suc, ◌+◌, ◌&&◌, Bool, List, []}
use Rattle.cluster_types.specs.declared.cluster_key.ClusterKey.{ClusterKey}
use Rattle.cluster_types.specs.declared.member.Member.{Member}
use Rattle.cluster_types.specs.Partitions.{partition_count, partition_of}
use Rattle.node_rules.specs.Agreement as agreement
use Rattle.node_rules.specs.Batches as batches
use Rattle.node_rules.specs.Batches.{Target, Targets}
use Rattle.node_rules.specs.Bits.{no_bits}
use Rattle.node_rules.specs.Classes.{sends_to}
use Rattle.node_rules.specs.Copies.{Stamps, Row, row_from}
use Rattle.node_rules.specs.Exchange.{begun, finished}
use Rattle.node_rules.specs.Facts.{Facts, list_at}
use Rattle.node_rules.specs.Hearing.{without_quiet}
use Rattle.node_rules.specs.Stamps.{no_writes, count_at, stamped_with}
use Rattle.node_rules.specs.Standing.{others, is_master, is_all_empty, is_own_replica}
use Rattle.node_rules.specs.Transactions.{no_transactions}

-- the row that the node makes as it enters a view
abbrev pub own_row : Facts → Row
own_row f = row_from f.store partition_count 0

-- a view was entered: all facts of the older one are gone
abbrev pub entered : Facts → ClusterKey → List Member → Row → Facts
entered f key members row = record f {
  hearing = without_quiet f.hearing;
  agreement = agreement.agreement_entered f.agreement key;
  exchange = begun f.me key members row;
  writes = no_writes;
  transactions = no_transactions;
  batches = [];
  bits = no_bits;
}

-- the count of a copy whose stamp has the view's key
abbrev pub count_in : Facts → List ℕ → ℕ → ℕ
count_in f l p = count_at f.writes (is_master f l) p

-- the stamps with one more where the test holds
abbrev pub stamped_if : Facts → ClusterKey → List ℕ → ℕ → Stamps → Bool → Stamps
stamped_if f key l p stamps b = stamped_with key (count_in f l p) p stamps b

-- at the end of the exchange a copy of a partition that is empty everywhere is stamped, where the
-- node is a replica
abbrev pub stamped_at : Facts → ClusterKey → List ℕ → ℕ → Stamps → Stamps
stamped_at f key l p stamps = stamped_if f key l p stamps (is_all_empty f p && is_own_replica f l)

-- the stamps with those of so many partitions from one on
unfoldable pub stamped_from : Facts → ClusterKey → Stamps → ℕ → ℕ → Stamps
stamped_from f key stamps zero p = stamps
stamped_from f key stamps (suc n) p =
    stamped_from f key (stamped_at f key (list_at f p) p stamps) n (p + 1)

-- whether the node hands the digest's record on to the member
abbrev pub is_for : Facts → ℕ → List ℕ → Bool
is_for f to digest =
    sends_to (list_at f (partition_of digest)) f.factor f.exchange.rows (partition_of digest) f.me
    to

-- the member's target as the exchange ends: every digest that the node holds and hands on to it is pending
abbrev pub target_for : Facts → ℕ → Target
target_for f to = batches.target_of (is_for f) f.store.content to

-- a target for each other member
abbrev pub own_targets : Facts → Targets
own_targets f = batches.targets_of (is_for f) f.store.content (others f)

-- the exchange is finished: copies are stamped, and digests are pending
abbrev pub exchanged : Facts → ClusterKey → Facts
exchanged f key = record f {
  exchange = finished f.exchange;
  store = record f.store { stamps = stamped_from f key f.store.stamps partition_count 0 };
  batches = own_targets f;
}
