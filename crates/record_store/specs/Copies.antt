-- The records of a store as a list of them for each partition.
use Rattle.std.specs.Prelude.{◌≡◌, ℕ, ◌<◌, List, [], ◌∷◌, ◌++◌, length, map, IsTrue, Some, slice_index_or}
use Rattle.std.specs.Ordering.{nat_cmp}
use Rattle.std.specs.Cmp.Lexicographic.{slice_cmp}
use Rattle.std.specs.FinMap as finite
use Rattle.std.specs.FinMap.{find, is_sorted}
use Rattle.conflict_order.specs.declared.version.Version.{Version}
use Rattle.conflict_order.specs.Contents.{Content, Record}
use Rattle.cluster_types.specs.Partitions.{partition_count, partition_of}
use Rattle.sorted_chain.specs.Chain.{Chain}

abbrev pub Entries : Type 0
Entries = List Record

-- the lists in rising order of their partitions
abbrev pub copies_of : List (Chain Version) → List Entries
copies_of chains = map (λ c. c.items) chains

-- the room that each of the chains has
abbrev pub rooms_of : List (Chain Version) → List ℕ
rooms_of chains = map (λ c. c.spare) chains

-- the entries of all of the lists
abbrev pub all_entries : List Entries → Entries
all_entries [] = []
all_entries (es ∷ copies) = es ++ all_entries copies

-- what the lists hold together
abbrev pub versions_of : List Entries → Content
versions_of copies = finite.from_entries (all_entries copies)

-- the digests rise, and each is the partition's
pub record IsCopy (p : ℕ) (es : Entries) : Type 0 where
  pub rising : IsTrue (is_sorted (slice_cmp nat_cmp) es)
  pub home : (d : List ℕ) (v : Version) → find (slice_cmp nat_cmp) d es ≡ Some v
      → partition_of d ≡ p

-- a list for each partition
pub record AreCopies (copies : List Entries) : Type 0 where
  pub count : length copies ≡ partition_count
  pub each : (p : ℕ) (d : Entries) → p < length copies → IsCopy p (slice_index_or copies p d)
