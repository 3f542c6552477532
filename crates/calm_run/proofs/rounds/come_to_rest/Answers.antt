use Rattle.std.proofs.Common.{rules, arith, sym, ◌∙◌, IsErrOf}
use Rattle.world.specs.declared.fault.StepFault.TheVariants as fault
use Rattle.calm_run.specs.Playing.{WritesMore}
use Rattle.calm_run.proofs.Faults.{on_each_fault}
use Rattle.calm_run.proofs.RoundLaws.{calmed_comes, calmed_gives_up, calmed_stands, calmed_stops, comes_to_rest, no_rounds, one_round_more, round_gives_up, round_stands_calm, round_stops_calm}
use Rattle.calm_run.proofs.rounds.come_to_rest.Goals as goal

pub loop-world-init : goal.loop-world-init
loop-world-init c = record { rounds = no_rounds _; few = omega arith }

pub overflow_add-rounds : goal.overflow_add-rounds
overflow_add-rounds c =
    let more : WritesMore c.loop-world.world c.round.new.world = c.in_ok-round.ensures.more (sym c.is_calm.ensures ∙ c.loop-world-test.true) in
    omega (arith, more.more, more.within.lines_fit, c.loop-world.invariant.few)

pub loop-world-preserved : goal.loop-world-preserved
loop-world-preserved c =
    let more : WritesMore c.loop-world.world c.round.new.world = c.in_ok-round.ensures.more (sym c.is_calm.ensures ∙ c.loop-world-test.true) in
    record {
      rounds = one_round_more _ _ _ c.loop-world.rounds c.loop-world.invariant.rounds (sym c.is_calm.ensures ∙ c.loop-world-test.true) c.in_ok-round.ensures.played;
      few = omega (arith, more.more, c.loop-world.invariant.few);
    }

pub loop-world-smaller : goal.loop-world-smaller
loop-world-smaller c =
    let more : WritesMore c.loop-world.world c.round.new.world = c.in_ok-round.ensures.more (sym c.is_calm.ensures ∙ c.loop-world-test.true) in
    omega (arith, more.more, more.within.lines_fit)

pub returns-in_err-round-clause-too_long : goal.returns-in_err-round-clause-too_long
returns-in_err-round-clause-too_long c = λ stopped.
    let failed : IsErrOf c.round.result fault.RunTooLong = search (rules, stopped) in
    round_stops_calm _ _ _ c.loop-world.rounds c.loop-world.invariant.rounds (sym c.is_calm.ensures ∙ c.loop-world-test.true) (c.round.ensures.too_long failed)

pub returns-in_err-round-clause-err : goal.returns-in_err-round-clause-err
returns-in_err-round-clause-err c = on_each_fault _ (round_stands_calm _ _ _ c.loop-world.rounds c.loop-world.invariant.rounds (sym c.is_calm.ensures ∙ c.loop-world-test.true) c.in_err-round.ensures.err)

pub returns-in_err-round-clause-gives_up : goal.returns-in_err-round-clause-gives_up
returns-in_err-round-clause-gives_up c = on_each_fault _ (round_gives_up _ _ _ c.loop-world.rounds c.loop-world.invariant.rounds (sym c.is_calm.ensures ∙ c.loop-world-test.true) c.in_err-round.ensures.err)

pub step-requires : goal.step-requires
step-requires c = calmed_comes _ c.loop-world.rounds (sym c.is_calm.ensures ∙ c.loop-world-test.false)

pub returns-in_err-step-clause-too_long : goal.returns-in_err-step-clause-too_long
returns-in_err-step-clause-too_long c = λ stopped.
    let failed : IsErrOf c.step.result fault.RunTooLong = search (rules, stopped) in
    calmed_stops _ _ _ c.loop-world.rounds c.loop-world.invariant.rounds (sym c.is_calm.ensures ∙ c.loop-world-test.false) c.in_err-step.ensures.err (c.step.ensures.too_long failed)

pub returns-in_err-step-clause-err : goal.returns-in_err-step-clause-err
returns-in_err-step-clause-err c = on_each_fault _ (calmed_stands _ _ _ c.loop-world.rounds c.loop-world.invariant.rounds (sym c.is_calm.ensures ∙ c.loop-world-test.false) c.in_err-step.ensures.err)

pub returns-in_err-step-clause-gives_up : goal.returns-in_err-step-clause-gives_up
returns-in_err-step-clause-gives_up c = on_each_fault _ (calmed_gives_up _ _ _ c.loop-world.rounds c.loop-world.invariant.rounds c.in_err-step.ensures.err)

pub returns-clause-calm : goal.returns-clause-calm
returns-clause-calm c = comes_to_rest _ _ _ c.loop-world.rounds c.loop-world.invariant.rounds (sym c.is_calm.ensures ∙ c.loop-world-test.false) c.in_ok-step.ensures.ok
