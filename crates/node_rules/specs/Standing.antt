-- How a node stands to a partition of its view, whose list is an argument.
use Rattle.std.specs.Prelude.{ℕ, zero, suc, ◌+◌, ◌==◌, ◌&&◌, ◌||◌, Bool, true, not, if◌then◌else◌, List, []}
use Rattle.cluster_types.specs.Distinct.{without}
use Rattle.cluster_types.specs.Members.{ids_of}
use Rattle.cluster_types.specs.Partitions.{partition_count}
use Rattle.cluster_types.specs.Rows.{bit}
use Rattle.partition_lists.specs.Lists.{replicas}
use Rattle.node_rules.specs.declared.member_row.MemberRow.{MemberRow}
use Rattle.node_rules.specs.Tables.{contains, is_nil}
use Rattle.node_rules.specs.Agreement as agreement
use Rattle.node_rules.specs.Map.{acting_by_rows, list_master, all_empty}
use Rattle.node_rules.specs.Classes.{asked_by_rows}
use Rattle.node_rules.specs.Batches.{is_pending}
use Rattle.node_rules.specs.Bits.{knows_each_done}
use Rattle.node_rules.specs.Copies.{holds_of}
use Rattle.node_rules.specs.Facts.{Facts, members_of_view, list_at}

-- the other members of the view, in member order
abbrev pub others : Facts → List ℕ
others f = agreement.others_among f.me (members_of_view f)

-- whether the node is a replica of the partition
abbrev pub is_own_replica : Facts → List ℕ → Bool
is_own_replica f l = contains (replicas l f.factor) f.me

-- the other replicas of the partition, in list order
abbrev pub other_replicas : Facts → List ℕ → List ℕ
other_replicas f l = without (replicas l f.factor) f.me

-- whether the node is the partition's list master
abbrev pub is_master : Facts → List ℕ → Bool
is_master f l = list_master l == f.me

-- the acting master by the rows of the view
abbrev pub acting_at : Facts → List ℕ → ℕ → ℕ
acting_at f l p = acting_by_rows l f.exchange.rows p

-- whether the node is the acting master by the rows of the view
abbrev pub is_acting : Facts → List ℕ → ℕ → Bool
is_acting f l p = acting_at f l p == f.me

-- whether no member's copy had a record, as far as rows are there. A row of another node plays no part
abbrev pub is_all_empty : Facts → ℕ → Bool
is_all_empty f p = all_empty (ids_of (members_of_view f)) f.exchange.rows p

-- whether the node is done at the partition: nothing of it is pending to any member
abbrev pub is_done : Facts → ℕ → Bool
is_done f p = f.exchange.exchanged && not (is_pending f.batches p)

-- whether the node is done and knows every other member done
abbrev pub are_all_done : Facts → ℕ → Bool
are_all_done f p = is_done f p && knows_each_done f.bits (others f) p

-- whether the node knows that the partition was handed over
abbrev pub knows_handed : Facts → ℕ → Bool
knows_handed f p = bit f.bits.handed p

-- whether the node knows that the partition's settling was written
abbrev pub has_settled_bit : Facts → ℕ → Bool
has_settled_bit f p = bit f.bits.settled p

-- whether the node itself handed the partition over
abbrev pub has_handed : Facts → ℕ → Bool
has_handed f p = bit f.bits.own_handed p

-- whether the node itself wrote the partition's settling
abbrev pub has_settled : Facts → ℕ → Bool
has_settled f p = bit f.bits.own_settled p

-- whether a node knows a partition settled: it has the settled bit, or it has finished the exchange and all copies
-- were empty
abbrev pub knows_settled_by : Bool → Bool → Bool → Bool
knows_settled_by settled exchanged empty = settled || (exchanged && empty)

-- whether the node knows the partition settled: by the bit, or since all copies were empty
abbrev pub knows_settled : Facts → ℕ → Bool
knows_settled f p = knows_settled_by (has_settled_bit f p) f.exchange.exchanged (is_all_empty f p)

-- whether the node knows each of so many partitions settled, from one on
unfoldable pub knows_all_settled : Facts → ℕ → ℕ → Bool
knows_all_settled f zero p = true
knows_all_settled f (suc n) p = knows_settled f p && knows_all_settled f n (p + 1)

-- whether the node knows the partition handed over or settled, so that its list master is to be asked
abbrev pub has_moved : Facts → ℕ → Bool
has_moved f p = knows_handed f p || knows_settled f p

-- whether a node takes requests that has finished the exchange or hasn't: it is the acting master by the rows and
-- hasn't handed the partition over, or it is the list master, where that is another, and has settled it
abbrev pub acts_by : Bool → Bool → Bool → Bool → Bool → Bool
acts_by exchanged acting handed master settled =
    exchanged && ((acting && not handed) || (master && (not acting && settled)))

-- whether the node takes requests: the acting master by the rows until it hands the partition over,
-- and the list master, where that is another, from its settling on. Both go by its own lines, not by what it hears
abbrev pub acts : Facts → List ℕ → ℕ → Bool
acts f l p =
    acts_by f.exchange.exchanged (is_acting f l p) (has_handed f p) (is_master f l)
    (has_settled f p)

-- the node that is to be asked of a list with that acting master, where the partition has come to its list master
-- or hasn't
abbrev pub named_by : Bool → List ℕ → ℕ → ℕ
named_by moved l acting = if moved then list_master l else acting

-- the node that is to be asked: the list master once the node knows the partition handed over or
-- settled, and before that the acting master by the rows
abbrev pub named : Facts → List ℕ → ℕ → ℕ
named f l p = named_by (has_moved f p) l (acting_at f l p)

-- whom a node asks of a partition that it knows settled or doesn't: nobody, or the firsts of all classes but its own
abbrev pub asked_by_known : Bool → List ℕ → List MemberRow → ℕ → ℕ → List ℕ
asked_by_known known l rows p by = if known then [] else asked_by_rows l rows p by

-- whom a transaction asks that opens now: nobody where the node knows the partition settled, and
-- otherwise the firsts of all classes but its own
abbrev pub asked : Facts → List ℕ → ℕ → List ℕ
asked f l p = asked_by_known (knows_settled f p) l f.exchange.rows p f.me

-- whether the node is to learn the partition: it is settled, the node is a replica, and hasn't learnt it
abbrev pub is_to_learn : Facts → List ℕ → ℕ → Bool
is_to_learn f l p = has_settled_bit f p && (is_own_replica f l && not (bit f.bits.learnt p))

-- whether the node is to drop the partition: it is settled, the node is done at it, is no replica,
-- and holds a record of it
abbrev pub is_to_drop : Facts → List ℕ → ℕ → Bool
is_to_drop f l p =
    has_settled_bit f p && (is_done f p && (not (is_own_replica f l) && holds_of f.store.content p))

-- whether nothing is to be learnt or dropped in so many partitions, from one on
unfoldable pub has_nothing_to_learn_or_drop : Facts → ℕ → ℕ → Bool
has_nothing_to_learn_or_drop f zero p = true
has_nothing_to_learn_or_drop f (suc n) p =
    not (is_to_learn f (list_at f p) p || is_to_drop f (list_at f p) p)
    && has_nothing_to_learn_or_drop f n (p + 1)

-- whether the node, of so many partitions, is at rest: it has finished the exchange, knows each
-- partition settled, has nothing to learn or drop, and has no open transaction
abbrev pub is_at_rest_of : ℕ → Facts → Bool
is_at_rest_of n f =
    f.exchange.exchanged
    && (knows_all_settled f n 0
    && (has_nothing_to_learn_or_drop f n 0 && is_nil f.transactions.running))

-- whether the node is at rest
abbrev pub is_at_rest : Facts → Bool
is_at_rest f = is_at_rest_of partition_count f
