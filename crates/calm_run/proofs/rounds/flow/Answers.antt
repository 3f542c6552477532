use Rattle.std.proofs.Common.{rules, refl, ◌∙◌, IsErrOf}
use Rattle.world.specs.declared.fault.StepFault.TheVariants as fault
use Rattle.calm_run.proofs.Faults.{on_each_fault}
use Rattle.calm_run.proofs.RoundLaws.{delivery_stands, delivery_stops, delivery_taken, flow_begins, flow_ends, flow_not_begun}
use Rattle.calm_run.proofs.rounds.flow.Goals as goal

pub loop-message-init : goal.loop-message-init
loop-message-init c = flow_begins _ _ (c.as_slice-message-items.ensures ∙ c.in_ok-in_flight.ensures)

pub loop-message-preserved : goal.loop-message-preserved
loop-message-preserved c =
    delivery_taken _ _ _ _ c.as_slice-message-items.result.now c.loop-message.message-index _ c.loop-message-test.true refl c.loop-message.invariant c.in_ok-step.ensures.ok

pub returns-in_err-step-clause-too_long : goal.returns-in_err-step-clause-too_long
returns-in_err-step-clause-too_long c = λ stopped.
    let failed : IsErrOf c.step.result fault.RunTooLong = search (rules, stopped) in
    delivery_stops _ _ _ c.as_slice-message-items.result.now c.loop-message.message-index _ c.loop-message-test.true refl c.loop-message.invariant c.in_err-step.ensures.err (c.step.ensures.too_long failed)

pub returns-in_err-step-clause-err : goal.returns-in_err-step-clause-err
returns-in_err-step-clause-err c = on_each_fault _
    (delivery_stands _ _ _ c.as_slice-message-items.result.now c.loop-message.message-index _ c.loop-message-test.true refl c.loop-message.invariant c.in_err-step.ensures.err)

pub returns-in_err-in_flight-clause-err : goal.returns-in_err-in_flight-clause-err
returns-in_err-in_flight-clause-err c = on_each_fault _ (flow_not_begun _)

pub returns-clause-played : goal.returns-clause-played
returns-clause-played c = flow_ends _ _ c.as_slice-message-items.result.now c.loop-message.message-index c.loop-message-test.false c.loop-message.invariant
