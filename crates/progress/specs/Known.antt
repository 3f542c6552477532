-- What a caller sees of how far the partitions have come.
use Rattle.std.specs.Prelude.{ℕ, ◌==◌, ◌&&◌, Bool, List}
use Rattle.cluster_types.specs.declared.map_view.MapEntry.{MapEntry}
use Rattle.cluster_types.specs.declared.member.Member.{Member}
use Rattle.cluster_types.specs.Rows.{bit}
use Rattle.node_rules.specs.Agreement as agreement
use Rattle.node_rules.specs.Bits as rules
use Rattle.node_rules.specs.Bits.{Bits, clear_row, no_bits, knows_each_done}
use Rattle.node_rules.specs.Map.{list_master}

-- a node in a view with these other members, the partitions at which it is done itself, and what it knows of all
pub record Known : Type 0 where
  pub me : ℕ
  -- in member order
  pub others : List ℕ
  pub own : List Bool
  pub bits : Bits

-- nothing is known among these members
abbrev pub nothing_known : List Member → ℕ → Known
nothing_known members me = record {
  me = me;
  others = agreement.others_among me members;
  own = clear_row;
  bits = no_bits;
}

-- whether the node is done at the partition, and knows every other member done
abbrev pub all_done : Known → ℕ → Bool
all_done k p = bit k.own p && knows_each_done k.bits k.others p

-- whether the node hands the partition over that is served so, where a transaction is open on it or isn't
abbrev pub hands_entry : Known → ℕ → MapEntry → Bool → Bool
hands_entry k p e busy =
    rules.bits_may_hand k.bits p (e.acting == k.me) (list_master e.list == k.me) (all_done k p) busy

-- whether it settles the partition
abbrev pub settles_entry : Known → ℕ → MapEntry → Bool → Bool
settles_entry k p e busy =
    rules.bits_may_settle k.bits p (e.acting == k.me) (list_master e.list == k.me) e.all_empty
    (all_done k p) busy
