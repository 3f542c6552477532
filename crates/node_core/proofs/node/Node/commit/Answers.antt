use Rattle.std.proofs.Common.{Some, sym, ap, subst, ◌∙◌}
use Rattle.std.specs.Prelude.{option_map}
use Rattle.clustering.specs.Agreeing.{Agreeing}
use Rattle.node_steps.specs.declared.planned.Planned.TheVariants as planned
use Rattle.node_core.proofs.CommitLaws.{has_view, if_next, next_is, ready_to_step, stepping_from}
use Rattle.node_core.specs.Nodes.{node_facts}
use Rattle.node_steps.specs.declared.planned.Ticked.{Ticked}
use Rattle.node_steps.specs.Fits.{FitsAgreed, FitsTick}
use Rattle.node_steps.specs.Plans.{agreed, taken, tick_taken}
use Rattle.node_steps.specs.Ranges.{HasRanges}
use Rattle.node_core.proofs.NodeLaws.{given_up}
use Rattle.node_core.proofs.node.Node.commit.Goals as goal

pub invariant_of-self-in-Nothing : goal.invariant_of-self-in-Nothing
invariant_of-self-in-Nothing c = rw c.take.ensures.after (given_up c.self.inside c.self.invariant.0)

pub invariant_of-self-in-Tick : goal.invariant_of-self-in-Tick
invariant_of-self-in-Tick c = rw c.take.ensures.after (given_up c.self.inside c.self.invariant.0)

pub take_tick-requires-clause-fits : goal.take_tick-requires-clause-fits
take_tick-requires-clause-fits c = subst (λ (t : Ticked). FitsTick (node_facts c.self.inside) t) (sym c.into_inner.ensures) (c.self.invariant.1 (planned.Tick c.in-Tick.tick) (sym c.take.ensures.value ∙ c.in-Some.is ∙ ap Some c.in-Tick.is)).fits

pub take_tick-requires-clause-ranges : goal.take_tick-requires-clause-ranges
take_tick-requires-clause-ranges c = subst (λ (t : Ticked). HasRanges (tick_taken (node_facts c.self.inside) t)) (sym c.into_inner.ensures) (c.self.invariant.1 (planned.Tick c.in-Tick.tick) (sym c.take.ensures.value ∙ c.in-Some.is ∙ ap Some c.in-Tick.is)).ranges

pub invariant_of-self-in-Agreed : goal.invariant_of-self-in-Agreed
invariant_of-self-in-Agreed c = rw c.take.ensures.after (given_up c.self.inside c.self.invariant.0)

pub invariant_of-self-in-Heard : goal.invariant_of-self-in-Heard
invariant_of-self-in-Heard c = rw c.take.ensures.after (given_up c.self.inside c.self.invariant.0)

pub invariant_of-self-in-Stopped : goal.invariant_of-self-in-Stopped
invariant_of-self-in-Stopped c = rw c.take.ensures.after (given_up c.self.inside c.self.invariant.0)

pub take_stop-requires-clause-ranges : goal.take_stop-requires-clause-ranges
take_stop-requires-clause-ranges c = (c.self.invariant.1 planned.Stopped (sym c.take.ensures.value ∙ c.in-Some.is ∙ ap Some c.in-Stopped.is)).ranges

pub take_agreed-requires-clause-fits : goal.take_agreed-requires-clause-fits
take_agreed-requires-clause-fits c =
    subst (λ (a : Agreeing). FitsAgreed (node_facts c.self.inside) a c.in-Agreed.entered) (sym c.into_inner-in-Agreed.ensures)
    (c.self.invariant.1 (planned.Agreed c.in-Agreed.agree c.in-Agreed.entered) (sym c.take.ensures.value ∙ c.in-Some.is ∙ ap Some c.in-Agreed.is)).fits

pub take_agreed-requires-clause-ranges : goal.take_agreed-requires-clause-ranges
take_agreed-requires-clause-ranges c =
    subst (λ (a : Agreeing). HasRanges (agreed (node_facts c.self.inside) a.agreement (option_map (λ v. v.value) c.in-Agreed.entered))) (sym c.into_inner-in-Agreed.ensures)
    (c.self.invariant.1 (planned.Agreed c.in-Agreed.agree c.in-Agreed.entered) (sym c.take.ensures.value ∙ c.in-Some.is ∙ ap Some c.in-Agreed.is)).ranges

pub take_heard-requires-clause-fits : goal.take_heard-requires-clause-fits
take_heard-requires-clause-fits c = (c.self.invariant.1 (planned.Heard c.in-Heard.from c.in-Heard.beat) (sym c.take.ensures.value ∙ c.in-Some.is ∙ ap Some c.in-Heard.is)).fits

pub take_view_step-requires-clause-in_one : goal.take_view_step-requires-clause-in_one
take_view_step-requires-clause-in_one c =
    has_view c.self.inside (c.self.invariant.1 (planned.View c.in-View.step) (sym c.take.ensures.value ∙ c.in-Some.is ∙ ap Some c.in-View.is)).fits.in_one

pub take_view_step-requires-clause-ready : goal.take_view_step-requires-clause-ready
take_view_step-requires-clause-ready c =
    rw c.into_inner-in-View.ensures (ready_to_step c.self.inside c.in-View.step.value c.self.invariant.0 (c.self.invariant.1 (planned.View c.in-View.step) (sym c.take.ensures.value ∙ c.in-Some.is ∙ ap Some c.in-View.is)).fits.step
    (c.self.invariant.2 (planned.View c.in-View.step) (sym c.take.ensures.value ∙ c.in-Some.is ∙ ap Some c.in-View.is)))

pub invariant_of-self-in-View : goal.invariant_of-self-in-View
invariant_of-self-in-View c =
    (stepping_from c.self.inside c.take.new.self c.take_view_step.new.view c.take_view_step.new.store c.in-View.step c.self.invariant
    (sym c.take.ensures.value ∙ c.in-Some.is ∙ ap Some c.in-View.is) c.take.ensures.after (rw (c.into_inner-in-View.ensures) at c.take_view_step.ensures)).node

pub returns-in-View : goal.returns-in-View
returns-in-View c =
    if_next _ c.args.self.now.next (taken (node_facts c.self.inside) (planned.View c.in-View.step))
    (next_is c.self.inside c.args.self.now (planned.View c.in-View.step) c.self.view_is (sym c.take.ensures.value ∙ c.in-Some.is ∙ ap Some c.in-View.is))
    (stepping_from c.self.inside c.take.new.self c.take_view_step.new.view c.take_view_step.new.store c.in-View.step c.self.invariant
    (sym c.take.ensures.value ∙ c.in-Some.is ∙ ap Some c.in-View.is) c.take.ensures.after (rw (c.into_inner-in-View.ensures) at c.take_view_step.ensures)).seen
