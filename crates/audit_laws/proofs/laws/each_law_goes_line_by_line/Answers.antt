use Rattle.audit_laws.proofs.Steps.{shape_step, map_step, loss_step, settled_step, read_step}
use Rattle.audit_laws.proofs.laws.each_law_goes_line_by_line.Goals as goal

pub returns : goal.returns
returns c = record { shape = shape_step; one_map = map_step; no_loss = loss_step; settled_join = settled_step; read_join = read_step }
