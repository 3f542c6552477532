use Rattle.run_laws.proofs.Naming.{shapes}
use Rattle.run_laws.proofs.laws.a_journal_has_its_shape.Goals as goal

pub returns : goal.returns
returns c = shapes
