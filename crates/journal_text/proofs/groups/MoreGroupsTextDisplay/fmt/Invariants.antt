use Rattle.std.proofs.Common.{take}
use Rattle.std.specs.Fmt.{HasWritten, IsPlainFormatter}
use Rattle.journal_text.specs.Values.{more_groups_text}
use Rattle.journal_text.proofs.groups.MoreGroupsTextDisplay.fmt.Given as goal

abbrev pub invariant-loop-group : goal.invariant-loop-group
invariant-loop-group g l =
    IsPlainFormatter l.initial.f → HasWritten g.W.Write.write_str_gives l.initial.f (more_groups_text (take l.group-index l.group-items)) l.f
