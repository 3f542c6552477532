use Rattle.std.proofs.Common.{arith}
use Rattle.std.proofs.lemmas.Grind.{common_steps}
use Rattle.journal_text.proofs.journal.Journal.fits.Goals as goal

pub returns-then-saturating_add-le-LINE_LIMIT : goal.returns-then-saturating_add-le-LINE_LIMIT
returns-then-saturating_add-le-LINE_LIMIT c = grind (arith, common_steps)
