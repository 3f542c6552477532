-- The writes of a view: what the code keeps of them, as the rules know it, and the room for one more.
use Rattle.std.specs.Prelude.{◌≡◌, ℕ, ◌<◌, ◌≤◌, [], Some, None, IsTrue, length, map, slice_index_or}
use Rattle.std.specs.List.{HoldsAt}
use Rattle.std.specs.Ordering.{nat_cmp}
use Rattle.std.specs.FinMap.Entries.{is_sorted}
use Rattle.node_rules.specs.Stamps as rules
use Rattle.node_rules.specs.Tables.{Table, at}
use Rattle.write_path.specs.Numbered.{Numbered}

-- what is kept
pub record Written : Type 0 where
  -- as the rules know it
  pub writes : rules.Writes
  -- of how many partitions more there is room for the node's first write
  pub applies : ℕ
  -- of how many partitions more there is room for the numbers of the list master's writes
  pub numbers : ℕ
  -- of each partition with numbers, for how many more there is room
  pub further : Table ℕ

-- the writes as the rules know them
abbrev pub writes_of : Written → rules.Writes
writes_of w = w.writes

-- the numbers of each partition, without the room
abbrev pub heard_in : Table Numbered → Table rules.Numbers
heard_in table = map (λ e. (e.0, e.1.numbers)) table

-- the room for further numbers of each partition
abbrev pub rooms_in : Table Numbered → Table ℕ
rooms_in table = map (λ e. (e.0, e.1.spare)) table

-- the partitions rise strictly
abbrev pub IsAscendingTable : {X : Type 0} → Table X → Type 0
IsAscendingTable table = IsTrue (is_sorted nat_cmp table)

-- the entry at this place is the partition's
pub record IsTablePlaceOf {X : Type 0} (p : ℕ) (table : Table X) (place : ℕ) : Type 0 where
  pub within : place < length table
  pub entry : HoldsAt (λ e. e.0 ≡ p) table place

-- the partition has no entry, and its place would be this
pub record IsGapFor {X : Type 0} (p : ℕ) (table : Table X) (place : ℕ) : Type 0 where
  pub within : place ≤ length table
  pub below : (i : ℕ) (d : ℕ × X) → i < place → i < length table → (slice_index_or table i d).0 < p
  pub above : (i : ℕ) (d : ℕ × X) → place ≤ i → i < length table → p < (slice_index_or table i d).0

-- there is room for one write of the node's own
abbrev pub HasRoomToApply : Written → Type 0
HasRoomToApply w = 0 < w.applies

-- there is room for one write of the list master on the partition: in the set of its numbers, or for that set, which
-- is empty and has room itself
pub data HasRoomToHear (further : Table ℕ) (numbers p : ℕ) (first : Numbered) : Type 0 where
  known : (n : ℕ) → at further p ≡ Some n → 0 < n → HasRoomToHear further numbers p first
  new : at further p ≡ None → 0 < numbers → first.numbers ≡ [] → 0 < first.spare
      → HasRoomToHear further numbers p first
