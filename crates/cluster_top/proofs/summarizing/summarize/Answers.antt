use Rattle.std.proofs.Common.{ap, ◌∙◌}
use Rattle.replay_core.specs.Outcome.{status_after_writing}
use Rattle.cluster_top.proofs.summarizing.summarize.Goals as goal

pub returns-clause-write_told : goal.returns-clause-write_told
returns-clause-write_told g c = λ other. c.write_summary-writing.ensures.told (λ e. other (c.after_writing.ensures.status ∙ ap status_after_writing e))
