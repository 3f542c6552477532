use Rattle.std.proofs.Common.{◌≡◌, length}
use Rattle.journal_reader.specs.Fields.{all_of, parsed_member}
use Rattle.journal_reader.proofs.Loops.{onto}
use Rattle.journal_reader.proofs.reading.members.each_member_of.Given as goal

abbrev pub invariant-loop-text : goal.invariant-loop-text
invariant-loop-text l = onto l.members.items (all_of parsed_member l.parts) ≡ all_of parsed_member l.fn.parts

abbrev pub decreases-loop-text : goal.decreases-loop-text
decreases-loop-text l = length l.parts
