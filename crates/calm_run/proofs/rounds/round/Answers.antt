use Rattle.std.proofs.Common.{rules, arith, ◌≡◌, subst, ◌∙◌, IsErrOf}
use Rattle.world.specs.declared.fault.StepFault.TheVariants as fault
use Rattle.calm_run.proofs.Faults.{on_each_fault}
use Rattle.calm_run.proofs.RoundLaws.{flow_stands_round, flow_stops_round, flow_taken, round_begins, round_ends, round_played, tick_comes, tick_stands, tick_stops, tick_taken, ticks_end}
use Rattle.journal_text.specs.Journals.{IsWithin}
use Rattle.calm_run.proofs.MoreLines.{round_writes_more}
use Rattle.calm_run.proofs.rounds.round.Goals as goal

pub loop-node-init : goal.loop-node-init
loop-node-init c = round_begins _ _ (c.as_slice-node-items.ensures.same ∙ c.up_nodes.ensures)

pub step-requires : goal.step-requires
step-requires c = tick_comes _ _ c.as_slice-node-items.result.now c.loop-node.node-index c.node-item.result c.loop-node-test.true c.node-item.is c.loop-node.invariant

pub loop-node-preserved : goal.loop-node-preserved
loop-node-preserved c =
    tick_taken _ _ _ _ c.as_slice-node-items.result.now c.loop-node.node-index c.node-item.result c.loop-node-test.true c.node-item.is c.loop-node.invariant c.in_ok-step.ensures.ok

pub returns-in_err-step-clause-too_long : goal.returns-in_err-step-clause-too_long
returns-in_err-step-clause-too_long c = λ stopped.
    let failed : IsErrOf c.step.result fault.RunTooLong = search (rules, stopped) in
    tick_stops _ _ _ c.as_slice-node-items.result.now c.loop-node.node-index c.node-item.result c.loop-node-test.true c.node-item.is c.loop-node.invariant c.in_err-step.ensures.err (c.step.ensures.too_long failed)

pub returns-in_err-step-clause-err : goal.returns-in_err-step-clause-err
returns-in_err-step-clause-err c = on_each_fault _
    (tick_stands _ _ _ c.as_slice-node-items.result.now c.loop-node.node-index c.node-item.result c.loop-node-test.true c.node-item.is c.loop-node.invariant c.in_err-step.ensures.err)

pub loop-init : goal.loop-init
loop-init c = ticks_end _ _ _ c.as_slice-node-items.result.now c.loop-node.node-index c.loop-node-test.false c.loop-node.invariant

pub loop-preserved : goal.loop-preserved
loop-preserved c = flow_taken _ _ _ _ c.loop.counter c.loop-test.true c.loop.invariant c.in_ok-flow.ensures.played

pub returns-in_err-flow-clause-too_long : goal.returns-in_err-flow-clause-too_long
returns-in_err-flow-clause-too_long c = λ stopped.
    let failed : IsErrOf c.flow.result fault.RunTooLong = search (rules, stopped) in
    flow_stops_round _ _ _ c.loop.counter c.loop-test.true c.loop.invariant (c.flow.ensures.too_long failed)

pub returns-in_err-flow-clause-err : goal.returns-in_err-flow-clause-err
returns-in_err-flow-clause-err c = on_each_fault _ (flow_stands_round _ _ _ c.loop.counter c.loop-test.true c.loop.invariant c.in_err-flow.ensures.err)

pub returns-clause-played : goal.returns-clause-played
returns-clause-played c =
    let all : c.loop.counter ≡ 4 = omega (arith, c.loop-test.false, c.loop.auto.counter-end) in
    round_played _ _ (round_ends _ _ c.loop.counter all c.loop.invariant)

pub returns-clause-more : goal.returns-clause-more
returns-clause-more c = λ uneasy.
    let all : c.loop.counter ≡ 4 = omega (arith, c.loop-test.false, c.loop.auto.counter-end) in
    round_writes_more _ _ c.journal.ensures.taken uneasy (round_ends _ _ c.loop.counter all c.loop.invariant) (subst IsWithin c.journal-2.ensures.lines c.journal-2.ensures.within)
