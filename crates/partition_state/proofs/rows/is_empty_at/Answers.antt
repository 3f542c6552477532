use Rattle.std.proofs.Common.{rules}
use Rattle.partition_state.proofs.rows.is_empty_at.Goals as goal

pub returns : goal.returns
returns c = search rules
