use Rattle.audit_core.proofs.Pieces.{cut_some, cut_none}
use Rattle.audit_core.proofs.lines.cut.Goals as goal

pub returns-clause-some : goal.returns-clause-some
returns-clause-some c = cut_some _ _ c.cut_at_first.ensures.some

pub returns-clause-none : goal.returns-clause-none
returns-clause-none c = cut_none _ _ c.cut_at_first.ensures.none
