use Rattle.std.proofs.Common.{◌≡◌, ℕ, ◌<◌, length, take, slice_index, count_by}
use Rattle.cluster_types.specs.Partitions.{partition_count}
use Rattle.record_store.specs.Copies.{copies_of, rooms_of}
use Rattle.cluster_types.specs.Copies.{is_of}
use Rattle.record_store.specs.Store.{HasRoom, KeepsRoom}
use Rattle.record_store.proofs.store.reserve_each.Given as goal

abbrev pub invariant-loop-d : goal.invariant-loop-d
invariant-loop-d l = record {
  same : copies_of l.copies ≡ copies_of l.initial.copies;
  kept : KeepsRoom (rooms_of l.initial.copies) (rooms_of l.copies);
  room : HasRoom (take l.d-index l.ds) (rooms_of l.copies);
  size : length l.wanted ≡ partition_count;
  counts : (p : ℕ) → p < partition_count → slice_index l.wanted p ≡ count_by (is_of p) (take l.d-index l.ds);
}
