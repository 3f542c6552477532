use Rattle.std.proofs.Common.{take}
use Rattle.std.specs.Fmt.{HasWritten, IsPlainFormatter}
use Rattle.journal_text.specs.Values.{more_members_text}
use Rattle.journal_text.proofs.words.MoreMembersTextDisplay.fmt.Given as goal

abbrev pub invariant-loop-member : goal.invariant-loop-member
invariant-loop-member g l =
    IsPlainFormatter l.initial.f → HasWritten g.W.Write.write_str_gives l.initial.f (more_members_text (take l.member-index l.member-items)) l.f
