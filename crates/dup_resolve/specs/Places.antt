-- How the open transactions are kept: in slots by number, with an index by digest and a count by
-- partition.
use Rattle.std.specs.Prelude.{◌≡◌, ℕ, ◌+◌, ◌-◌, ◌<◌, ◌≤◌, min, Bool, true, false, List, [], ◌∷◌, Option, Some, None, All, AllPairs, bytes_eq, map, slice_get, slice_index}
use Rattle.std.specs.List.{IsDistinct, count_by}
use Rattle.std.specs.Map.{lookup, keys_of}
use Rattle.cluster_types.specs.Partitions.{partition_count}
use Rattle.node_rules.specs.Copies.{is_of}
use Rattle.dup_resolve.specs.declared.txn.Txn.{Txn}

pub record Slotted : Type 0 where
  -- how many were opened
  pub opened : ℕ
  -- those that are open
  pub running : List Txn
  -- how many can be opened without memory
  pub spare : ℕ

-- the transactions in slots
abbrev pub running_of : List (Option Txn) → List Txn
running_of [] = []
running_of (None ∷ slots) = running_of slots
running_of (Some t ∷ slots) = t ∷ running_of slots

-- the first slot, if there is one, has a transaction
abbrev pub starts_with_txn : List (Option Txn) → Bool
starts_with_txn [] = true
starts_with_txn (None ∷ slots) = false
starts_with_txn (Some t ∷ slots) = true

-- each transaction has its slot's number; so many were opened before the first slot's
pub record AreNumbered (before : ℕ) (slots : List (Option Txn)) : Type 0 where
  pub at : (i : ℕ) (t : Txn) → slice_get slots i ≡ Some (Some t) → t.id ≡ before + 1 + i

-- the numbers rise strictly, up to the last one at most
pub record AreRisingUpTo (last : ℕ) (ts : List Txn) : Type 0 where
  pub rising : AllPairs (λ t u. t.id < u.id) ts
  pub to_last : All (λ t. t.id ≤ last) ts

-- the digest of each with its number
abbrev pub txn_entries : List Txn → List (List ℕ × ℕ)
txn_entries ts = map (λ t. (t.digest, t.id)) ts

-- the map has the number of each digest's transaction, and no digest stands twice
pub record IsIndex (es : List (List ℕ × ℕ)) (numbers : List ℕ → Option ℕ) : Type 0 where
  pub agrees : (q : List ℕ) → numbers q ≡ lookup (bytes_eq q) es
  pub distinct : IsDistinct bytes_eq (keys_of es)

-- the numbers say of each partition how many are open on it
pub record AreOpenCounts (es : List (List ℕ × ℕ)) (numbers : List ℕ) : Type 0 where
  pub at : (p : ℕ) → p < partition_count → slice_index numbers p ≡ count_by (is_of p) (keys_of es)

-- how many transactions can begin without memory, by the room in the slots and in the index, and by
-- how many partitions have a count
abbrev pub room_of : ℕ → ℕ → ℕ → ℕ
room_of slots index counts = min slots (min index (counts + 1 - partition_count))
