-- What a node knows of the writes of its view, and what becomes of a store's stamps.
pub use Rattle.partition_lists.specs.Classes.{no_class}
pub use Rattle.partition_lists.specs.Counts.{Numbers, with_number, have_no_gap, count_of, recounted, spoiled}
use Rattle.std.specs.Prelude.{ℕ, zero, suc, ◌+◌, Bool, true, false, List, [], Option, Some, None, unwrap_or}
use Rattle.std.specs.FinMap as map
use Rattle.conflict_order.specs.declared.version.Version.{Version}
use Rattle.cluster_types.specs.declared.cluster_key.ClusterKey.{ClusterKey}
use Rattle.cluster_types.specs.Partitions.{partition_of}
use Rattle.node_rules.specs.Tables.{Table, at, table_with}
use Rattle.node_rules.specs.Copies.{Store, Stamp, Stamps, storing, stamping}

-- what a node knows in its view of the writes on each partition
pub record Writes : Type 0 where
  -- how many writes it applied itself
  pub applies : Table ℕ
  -- the numbers of the list master's writes that reached it
  pub numbers : Table Numbers

-- no write was applied and none came
abbrev pub no_writes : Writes
no_writes = record { applies = []; numbers = [] }

-- how many writes of the partition the node applied
abbrev pub applies_at : Writes → ℕ → ℕ
applies_at w p = unwrap_or (at w.applies p) 0

-- the numbers of the list master's writes of the partition that came
abbrev pub numbers_at : Writes → ℕ → Numbers
numbers_at w p = unwrap_or (at w.numbers p) []

-- the node applied one more
abbrev pub applying : Writes → ℕ → Writes
applying w p = record w { applies = table_with w.applies p (applies_at w p + 1) }

-- the list master's write of that number reached the node
abbrev pub hearing_write : Writes → ℕ → ℕ → Writes
hearing_write w p nth = record w {
  numbers = table_with w.numbers p (with_number (numbers_at w p) nth);
}

-- how many of the list master's writes of the view the copy has had: its own for the list master
-- itself, and for another node the numbers that reached it
abbrev pub count_at : Writes → Bool → ℕ → ℕ
count_at w true p = applies_at w p
count_at w false p = count_of (numbers_at w p)

-- the stamps with that one changed, where it is there
abbrev pub changed_stamps : Stamps → ℕ → (Stamp → Stamp) → Option Stamp → Stamps
changed_stamps stamps p change None = stamps
changed_stamps stamps p change (Some stamp) = map.insert stamps p (change stamp)

-- a change of the partition's stamp, where it has one
abbrev pub with_stamp : Store → ℕ → (Stamp → Stamp) → Store
with_stamp s p change = record s { stamps = changed_stamps s.stamps p change (map.get s.stamps p) }

-- ---- what becomes of a store, in a view of that key

-- the list master's write reached the copy, whose count is this now
abbrev pub store_counted : Store → ClusterKey → ℕ → ℕ → Store
store_counted s key p count = with_stamp s p (recounted key count)

-- a newer version came from another node
abbrev pub store_merged : Store → ClusterKey → List ℕ → Version → Store
store_merged s key digest v = with_stamp (storing s digest v) (partition_of digest) (spoiled key)

-- the node applied a write to the copy, whose count is this now
abbrev pub store_applied : Store → ClusterKey → List ℕ → Version → ℕ → Store
store_applied s key digest v count =
    with_stamp (storing s digest v) (partition_of digest)
    (λ stamp. recounted key count (spoiled key stamp))

-- the copy was learnt: it is whole under the key, with that count
abbrev pub store_learnt : Store → ClusterKey → ℕ → ℕ → Store
store_learnt s key p count = stamping s p (key, count)

-- ---- the end of an exchange

-- the stamps with one more where the test holds: under that key, with that count
abbrev pub stamped_with : ClusterKey → ℕ → ℕ → Stamps → Bool → Stamps
stamped_with key count p stamps true = map.insert stamps p (key, count)
stamped_with key count p stamps false = stamps

-- the stamps with one more for each of so many partitions, from one on, that passes the test: under that key, with
-- its count
unfoldable pub stamped_by : (ℕ → Bool) → (ℕ → ℕ) → ClusterKey → Stamps → ℕ → ℕ → Stamps
stamped_by which count key stamps zero p = stamps
stamped_by which count key stamps (suc n) p =
    stamped_by which count key (stamped_with key (count p) p stamps (which p)) n (p + 1)
