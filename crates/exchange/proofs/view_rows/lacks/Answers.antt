use Rattle.std.proofs.Common.{◌∙◌}
use Rattle.exchange.proofs.RowsLaws.{others_lack}
use Rattle.exchange.proofs.view_rows.lacks.Goals as goal

pub returns : goal.returns
returns c = c.are_of_others.ensures ∙ others_lack c.args.rows.now c.args.n
