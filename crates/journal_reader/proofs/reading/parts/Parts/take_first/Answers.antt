use Rattle.std.proofs.Common.{sym, ap, ◌∙◌}
use Rattle.journal_reader.specs.Parts.{parts_left}
use Rattle.journal_reader.proofs.Parts.{cut_off, sole_part}
use Rattle.journal_reader.proofs.reading.parts.Parts.take_first.Goals as goal

pub returns-in-None-clause-some : goal.returns-in-None-clause-some
returns-in-None-clause-some c = sym c.self.view_is ∙ ap (parts_left _) c.in_ok-text.was ∙ sole_part _ _ c.in-None.ensures.none

pub returns-in-Some-clause-some : goal.returns-in-Some-clause-some
returns-in-Some-clause-some c = sym c.self.view_is ∙ ap (parts_left _) c.in_ok-text.was ∙ cut_off _ _ _ _ c.in-Some.ensures.some
