use Rattle.std.proofs.Common.{subst}
use Rattle.std.proofs.lemmas.Result.{on_ok_weaker}
use Rattle.journal_text.specs.Journals.{IsWithin}
use Rattle.world.specs.Claims.{HasClaims}
use Rattle.calm_run.proofs.InTime.{rests_in_time}
use Rattle.calm_run.proofs.rounds.play.Goals as goal

pub returns-clause-rests : goal.returns-clause-rests
returns-clause-rests c = λ is.
    on_ok_weaker c.play_command-answer.result
    (λ played. rests_in_time _ _ c.args.command.now is played c.journal.ensures.taken (subst IsWithin c.journal.ensures.lines c.journal.ensures.within))
    c.play_command-answer.ensures.played

pub returns-clause-claims : goal.returns-clause-claims
returns-clause-claims c = subst HasClaims c.journal.ensures.lines c.journal.ensures.claims
