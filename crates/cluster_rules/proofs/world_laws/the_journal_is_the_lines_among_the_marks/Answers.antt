use Rattle.std.proofs.Common.{sym, ◌∙◌}
use Rattle.cluster_rules.proofs.MarkLaws.{lines_of_run, front_of_lines}
use Rattle.cluster_rules.proofs.world_laws.the_journal_is_the_lines_among_the_marks.Goals as goal

pub returns-clause-whole : goal.returns-clause-whole
returns-clause-whole c = λ n s j r. r.written ∙ sym (lines_of_run s.header r.played)

pub returns-clause-fronts : goal.returns-clause-fronts
returns-clause-fronts c = λ ms i. front_of_lines ms i
