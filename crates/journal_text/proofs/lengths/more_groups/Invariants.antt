use Rattle.std.proofs.Common.{◌≡◌, ◌^◌, ◌-◌, length, take}
use Rattle.std.specs.Prelude.{min}
use Rattle.journal_text.specs.Values.{more_groups_text}
use Rattle.journal_text.proofs.lengths.more_groups.Given as goal

abbrev pub invariant-loop-group : goal.invariant-loop-group
invariant-loop-group l = l.bytes ≡ min (length (more_groups_text (take l.group-index l.groups))) (2 ^ 64 - 1)
