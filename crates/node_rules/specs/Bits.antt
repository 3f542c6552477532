-- What a node knows of how far each partition has come in its view.
use Rattle.std.specs.Prelude.{ℕ, ◌&&◌, ◌||◌, Bool, true, false, not, List, [], unwrap_or, replicate, slice_set}
use Rattle.std.specs.List.{list_all}
use Rattle.cluster_types.specs.Partitions.{partition_count}
use Rattle.cluster_types.specs.Rows.{bit}
pub use Rattle.cluster_types.specs.Rows.{or_rows}
use Rattle.node_rules.specs.Tables.{Table, at, table_with}

-- bits of each partition, of the view alone
pub record Bits : Type 0 where
  -- the done row of each other member's last Progress
  pub done : Table (List Bool)
  -- the partitions that were handed over, as far as the node knows
  pub handed : List Bool
  -- the partitions whose settling was written, as far as the node knows
  pub settled : List Bool
  -- those that the node itself handed over, and whose settling it wrote itself
  pub own_handed : List Bool
  pub own_settled : List Bool
  -- the partitions that the node learnt
  pub learnt : List Bool

-- a row in which no bit is set
unfoldable pub clear_row : List Bool
clear_row = replicate partition_count false

-- no bit is set and no Progress came
abbrev pub no_bits : Bits
no_bits = record {
  done = [];
  handed = clear_row;
  settled = clear_row;
  own_handed = clear_row;
  own_settled = clear_row;
  learnt = clear_row;
}

-- the row with the partition's bit
abbrev pub with_bit : List Bool → ℕ → List Bool
with_bit row p = slice_set row p true

-- whether the node knows that the member is done at the partition
abbrev pub knows_done : Bits → ℕ → ℕ → Bool
knows_done b p m = bit (unwrap_or (at b.done m) []) p

-- a Progress came: its done row takes the place of the sender's last one, and the other two are joined. What the node
-- wrote itself stays
abbrev pub progressing : Bits → ℕ → List Bool → List Bool → List Bool → Bits
progressing b from done handed settled = record b {
  done = table_with b.done from done;
  handed = or_rows b.handed handed;
  settled = or_rows b.settled settled;
}

-- whether the node knows each of these members done at the partition
abbrev pub knows_each_done : Bits → List ℕ → ℕ → Bool
knows_each_done b ms p = list_all (knows_done b p) ms

-- the node handed the partition over
abbrev pub handing : Bits → ℕ → Bits
handing b p = record b { handed = with_bit b.handed p; own_handed = with_bit b.own_handed p }

-- the node wrote the partition's settling
abbrev pub settling : Bits → ℕ → Bits
settling b p = record b { settled = with_bit b.settled p; own_settled = with_bit b.own_settled p }

-- the node learnt the partition
abbrev pub learning : Bits → ℕ → Bits
learning b p = record b { learnt = with_bit b.learnt p }

-- whether the partition is handed over by a node that is the acting master by the rows or isn't, and the list
-- master or isn't, where all members are known done or aren't, and a transaction is open on it or isn't
abbrev pub bits_may_hand : Bits → ℕ → Bool → Bool → Bool → Bool → Bool
bits_may_hand b p is_acting is_master all_done is_busy =
    is_acting && (not is_master && (not (bit b.own_handed p) && (all_done && not is_busy)))

-- whether the partition is settled by such a node, where all copies were empty or weren't
abbrev pub bits_may_settle : Bits → ℕ → Bool → Bool → Bool → Bool → Bool → Bool
bits_may_settle b p is_acting is_master all_empty all_done is_busy =
    is_master
    && (not all_empty
    && (not (bit b.settled p) && (not is_busy && (bit b.handed p || (is_acting && all_done)))))
