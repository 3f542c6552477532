use Rattle.key_laws.proofs.NamedSteps.{all_named}
use Rattle.key_laws.proofs.laws.lines_name_declared_nodes.Goals as goal

pub returns : goal.returns
returns c = all_named
