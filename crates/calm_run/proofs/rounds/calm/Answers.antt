use Rattle.std.proofs.Common.{subst}
use Rattle.std.proofs.lemmas.Result.{IfOk-weaker}
use Rattle.journal_text.specs.Journals.{IsWithin}
use Rattle.world.specs.Claims.{HasClaims}
use Rattle.calm_run.proofs.InTime.{rounds_in_time}
use Rattle.calm_run.proofs.rounds.calm.Goals as goal

pub returns-clause-in_time : goal.returns-clause-in_time
returns-clause-in_time c =
    IfOk-weaker c.come_to_rest-rounds.result _ _
    (λ rounds rest. rounds_in_time _ _ rounds rest c.journal.ensures.taken (subst IsWithin c.journal.ensures.lines c.journal.ensures.within))
    c.come_to_rest-rounds.ensures.calm

pub returns-clause-claims : goal.returns-clause-claims
returns-clause-claims c = subst HasClaims c.journal.ensures.lines c.journal.ensures.claims
