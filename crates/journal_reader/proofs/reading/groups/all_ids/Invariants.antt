use Rattle.std.proofs.Common.{◌≡◌, take}
use Rattle.std.specs.List.{concat}
use Rattle.journal_reader.proofs.reading.groups.all_ids.Given as goal

abbrev pub invariant-loop-group : goal.invariant-loop-group
invariant-loop-group l = l.ids.items ≡ concat (take l.group-index l.groups)
