use Rattle.std.proofs.Common.{◌∙◌, ap}
use Rattle.partition_lists.specs.Acting.{acting_by}
use Rattle.partition_state.proofs.CopyLaws.{states_are}
use Rattle.partition_state.proofs.rows.acting.Goals as goal

pub returns : goal.returns
returns c = c.acting.ensures ∙ rw c.of.ensures (ap (acting_by c.args.l.now) (states_are c.args.rows.now c.args.p))
