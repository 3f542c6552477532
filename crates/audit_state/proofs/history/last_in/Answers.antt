use Rattle.std.proofs.Common.{◌∙◌}
use Rattle.audit_state.proofs.HistoryLaws.{last_at}
use Rattle.audit_state.proofs.history.last_in.Goals as goal

pub returns : goal.returns
returns c = c.last_change.ensures ∙ last_at _ _ _ c.changes_before-count.ensures.bound c.changes_before-count.ensures.point
