use Rattle.std.proofs.Common.{arith}
use Rattle.std.proofs.lemmas.Grind.{common_steps}
use Rattle.exchange.proofs.view_rows.ViewRows.own_row.Goals as goal

pub returns : goal.returns
returns c = grind (arith, common_steps)
