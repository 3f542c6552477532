use Rattle.key_laws.proofs.Runs.{keys_rise}
use Rattle.key_laws.proofs.laws.keys_rise_in_every_journal.Goals as goal

pub returns : goal.returns
returns c = λ n s p j r. keys_rise n s j p r
