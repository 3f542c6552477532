use Rattle.std.proofs.Common.{◌≡◌, length}
use Rattle.std.specs.List.{slice_split}
use Rattle.journal_reader.specs.Fields.{is_bar, each_group_of}
use Rattle.journal_reader.proofs.Loops.{groups_left}
use Rattle.journal_reader.proofs.reading.groups.each_group_of.Given as goal

abbrev pub invariant-loop-field : goal.invariant-loop-field
invariant-loop-field l = groups_left l.groups.items l.ids.items (slice_split is_bar l.fields) ≡ each_group_of (slice_split is_bar l.fn.fields)

abbrev pub decreases-loop-field : goal.decreases-loop-field
decreases-loop-field l = length l.fields
