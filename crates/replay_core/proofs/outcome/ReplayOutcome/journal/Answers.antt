use Rattle.std.proofs.Common.{subst}
use Rattle.replay_core.specs.Outcome.{CalmsAreInTime, ReplayEnd}
use Rattle.replay_core.proofs.outcome.ReplayOutcome.journal.Goals as goal

pub returns-clause-calms : goal.returns-clause-calms
returns-clause-calms c = subst (λ (r : ReplayEnd). CalmsAreInTime r.lines) c.self.view_is c.self.invariant.calms
