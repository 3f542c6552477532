use Rattle.node_rules.proofs.PartLaws.{entering_is}
use Rattle.node_rules.proofs.step_laws.entering_leaves_no_transaction.Goals as goal

pub returns : goal.returns
returns c = entering_is
