use Rattle.key_laws.proofs.Runs.{entries_agree}
use Rattle.key_laws.proofs.laws.entries_agree_in_every_journal.Goals as goal

pub returns : goal.returns
returns c = λ n s p j r. entries_agree n s j p r
