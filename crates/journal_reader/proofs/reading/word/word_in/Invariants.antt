use Rattle.std.proofs.Common.{◌≡◌, length, map}
use Rattle.journal_reader.specs.Words.{word_in}
use Rattle.journal_reader.proofs.reading.word.word_in.Given as goal

abbrev pub invariant-loop-table : goal.invariant-loop-table
invariant-loop-table l = word_in (map (λ e. (e.0.now, e.1)) l.table) l.text ≡ word_in (map (λ e. (e.0.now, e.1)) l.initial.table) l.text

abbrev pub decreases-loop-table : goal.decreases-loop-table
decreases-loop-table l = length l.table
