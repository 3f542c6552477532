-- The parts of the digest space.
use Rattle.std.specs.Prelude.{ℕ, ◌+◌, ◌*◌, ◌%◌, List, slice_index}

-- how many partitions there are
abbrev pub partition_count : ℕ
partition_count = 4096

-- the first two bytes as a number, the low byte first, modulo the number of partitions
abbrev pub partition_of : List ℕ → ℕ
partition_of digest = (slice_index digest 0 + 256 * slice_index digest 1) % partition_count
