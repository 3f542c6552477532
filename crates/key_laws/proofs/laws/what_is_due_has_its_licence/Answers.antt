use Rattle.key_laws.proofs.Runs.{run_ok}
use Rattle.key_laws.proofs.laws.what_is_due_has_its_licence.Goals as goal

pub returns : goal.returns
returns c = λ n s p j r. run_ok n s j p r
