use Rattle.std.proofs.Common.{◌≡◌, take}
use Rattle.journal_text.proofs.line_list.LineList.copy.Given as goal

-- the copies so far are those of the first lines
abbrev pub invariant-loop-line : goal.invariant-loop-line
invariant-loop-line l = l.lines.items ≡ take l.line-index l.self
