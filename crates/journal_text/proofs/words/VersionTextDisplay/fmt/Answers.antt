use Rattle.std.proofs.Common.{arith}
use Rattle.std.proofs.lemmas.Grind.{common_steps}
use Rattle.journal_text.proofs.words.VersionTextDisplay.fmt.Goals as goal

pub returns-in-Tombstone-clause-writes : goal.returns-in-Tombstone-clause-writes
returns-in-Tombstone-clause-writes g c = grind (arith, common_steps)
