use Rattle.std.proofs.Common.{rules}
use Rattle.emigrate.proofs.emigration.Emigration.permit.Goals as goal

pub returns-then-is_done-clause-some : goal.returns-then-is_done-clause-some
returns-then-is_done-clause-some c = search rules
