use Rattle.std.proofs.Common.{◌≡◌, ◌++◌}
use Rattle.std.specs.List.{flat_map}
use Rattle.std.specs.VecDeque.Iter.{deque_iter_rest}
use Rattle.wire_messages.specs.Versions.{record_field}
use Rattle.wire_codec.proofs.writing.versions.put_each_record.Given as goal

-- what stands there, and the records that are left, are all of them behind what stood there
abbrev pub invariant-loop-record : goal.invariant-loop-record
invariant-loop-record l = l.out.items ++ flat_map record_field (deque_iter_rest l.record-iterator) ≡ l.fn.out.items ++ flat_map record_field l.records
