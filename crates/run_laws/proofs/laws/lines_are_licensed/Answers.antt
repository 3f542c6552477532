use Rattle.run_laws.proofs.Premised.{taken_is_a_journal}
use Rattle.run_laws.proofs.laws.lines_are_licensed.Goals as goal

pub returns : goal.returns
returns c = taken_is_a_journal
