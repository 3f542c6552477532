use Rattle.std.proofs.Common.{refl, sym, ◌∙◌}
use Rattle.std.proofs.lemmas.Result.{on_ok_weaker, on_err_weaker}
use Rattle.world.specs.declared.fault.StepFault.TheVariants as fault
use Rattle.calm_run.proofs.Faults.{on_each_fault, on_this_fault}
use Rattle.calm_run.proofs.CommandLaws.{calm_is_no_event, calm_is_none, event_may_come, event_not_fit, event_not_made, event_not_taken, event_played, is_calm_command, rest_played}
use Rattle.calm_run.proofs.rounds.play_command.Goals as goal

pub returns-in_err-event-clause-err : goal.returns-in_err-event-clause-err
returns-in_err-event-clause-err c = on_each_fault _ (event_not_made _ _ c.args.command.now c.in_err-event.ensures.refused refl)

pub step-requires : goal.step-requires
step-requires c = event_may_come _ c.args.command.now _ (sym c.in_ok-event.ensures.event ∙ c.in-Some.is) c.requires

pub returns-in-Some-clause-played : goal.returns-in-Some-clause-played
returns-in-Some-clause-played c = on_ok_weaker c.step.result (event_played _ _ c.args.command.now _ (sym c.in_ok-event.ensures.event ∙ c.in-Some.is)) c.step.ensures.ok

pub returns-in-Some-clause-too_long : goal.returns-in-Some-clause-too_long
returns-in-Some-clause-too_long c = λ stopped.
    event_not_fit _ _ c.args.command.now _ (sym c.in_ok-event.ensures.event ∙ c.in-Some.is) (on_this_fault c.step.result fault.RunTooLong stopped c.step.ensures.err) (c.step.ensures.too_long stopped)

pub returns-in-Some-clause-err : goal.returns-in-Some-clause-err
returns-in-Some-clause-err c =
    on_err_weaker c.step.result (event_not_taken _ _ c.args.command.now _ (sym c.in_ok-event.ensures.event ∙ c.in-Some.is)) c.step.ensures.err

pub returns-in_ok-come_to_rest-in_default-command-clause-played : goal.returns-in_ok-come_to_rest-in_default-command-clause-played
returns-in_ok-come_to_rest-in_default-command-clause-played c =
    rest_played _ _ c.args.command.now _
    (is_calm_command c.args.command.now (sym c.in_ok-event.ensures.event ∙ c.in_default.is) c.in_default-command.not-Flow c.in_default-command.not-Round)
    c.in_ok-come_to_rest-in_default-command.ensures.calm

pub returns-in_err-event-clause-gives_up : goal.returns-in_err-event-clause-gives_up
returns-in_err-event-clause-gives_up c = λ is. absurd (calm_is_none c.args.command.now c.in_err-event.ensures.refused is)

pub returns-in-Some-clause-gives_up : goal.returns-in-Some-clause-gives_up
returns-in-Some-clause-gives_up c = λ is. absurd (calm_is_no_event c.args.command.now _ (sym c.in_ok-event.ensures.event ∙ c.in-Some.is) is)
