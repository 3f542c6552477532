use Rattle.std.proofs.Common.{◌≡◌, ◌^◌, ◌-◌, length, min, take}
use Rattle.journal_text.specs.Text.{text}
use Rattle.journal_text.proofs.line_list.measured.Given as goal

-- so far, the text of the first lines
abbrev pub invariant-loop-line : goal.invariant-loop-line
invariant-loop-line l = l.bytes ≡ min (length (text (take l.line-index l.lines))) (2 ^ 64 - 1)
