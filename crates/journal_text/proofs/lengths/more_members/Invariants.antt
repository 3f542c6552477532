use Rattle.std.proofs.Common.{◌≡◌, ◌^◌, ◌-◌, length, take}
use Rattle.std.specs.Prelude.{min}
use Rattle.journal_text.specs.Values.{more_members_text}
use Rattle.journal_text.proofs.lengths.more_members.Given as goal

abbrev pub invariant-loop-m : goal.invariant-loop-m
invariant-loop-m l = l.bytes ≡ min (length (more_members_text (take l.m-index l.members))) (2 ^ 64 - 1)
