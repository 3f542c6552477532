use Rattle.std.proofs.Common.{ap, ◌∙◌}
use Rattle.replay_core.specs.Outcome.{status_after_writing}
use Rattle.replay_core.proofs.replaying.transcribe.Goals as goal

pub returns-clause-write_told : goal.returns-clause-write_told
returns-clause-write_told g c = λ other. c.write_lines-writing.ensures.told (λ e. other (c.after_writing.ensures.status ∙ ap status_after_writing e))
