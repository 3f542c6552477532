use Rattle.run_laws.proofs.Shapes.{stands_in_order}
use Rattle.run_laws.proofs.laws.lines_stand_in_order.Goals as goal

pub returns : goal.returns
returns c = stands_in_order
