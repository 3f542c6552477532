use Rattle.std.proofs.Common.{◌≡◌, Some, map, sym, ap, subst, ◌∙◌}
use Rattle.wire_messages.specs.declared.message.Message.TheVariants as message
use Rattle.wire_messages.specs.Spelling.{spelling}
use Rattle.clustering.specs.Agreeing.{Agreeing}
use Rattle.node_rules.specs.Agreement.{others_among}
use Rattle.node_rules.specs.Effects.{lines_only}
use Rattle.node_rules.specs.Entering.{entering}
use Rattle.node_rules.specs.Exchange.{members_of}
use Rattle.node_rules.specs.Steps.{Planning, planning}
use Rattle.node_view.specs.Views.{Viewed, view_at_entry}
use Rattle.node_steps.specs.declared.effects.Effects.{Effects}
use Rattle.node_steps.specs.Fits.{FitsAgreed}
use Rattle.node_steps.specs.Plans.{agreed}
use Rattle.node_steps.specs.Ranges.{HasRanges}
use Rattle.node_steps.specs.Spelled.{then_effects, with_sends}
use Rattle.node_core.proofs.EnteringLaws.{agreed_alike}
use Rattle.node_core.proofs.LeadLaws.{fits_entered, others_entered, ranges_in_view, told_lead}
use Rattle.node_core.proofs.node.Node.lead.Goals as goal

pub plan-requires-clause-fits : goal.plan-requires-clause-fits
plan-requires-clause-fits c =
    let agree = c.in_ok-agree.agree.value in
    subst (λ (p : Planning). FitsAgreed p.now agree (Some c.in_ok-view.view)) (sym c.in_ok-view.ensures.same)
    (fits_entered c.args.self.now.now agree c.args.key c.args.members c.in_ok-view.view (ap (λ (a : Agreeing). a.me) c.in_ok-agree.ensures.ok ∙ c.requires.agree_of) c.in_ok-view.ensures.view)

pub plan-requires-clause-ranges : goal.plan-requires-clause-ranges
plan-requires-clause-ranges c =
    let f = c.args.self.now.now in
    let a = c.in_ok-agree.agree.value.agreement in
    let ranges : HasRanges (record f { agreement = a }) = subst (λ (x : Agreeing). HasRanges (record f { agreement = x.agreement })) (sym c.in_ok-agree.ensures.ok) c.requires.ranges in
    subst (λ (p : Planning). HasRanges (agreed p.now a (Some c.in_ok-view.view.value))) (sym c.in_ok-view.ensures.same)
    (ranges_in_view f a c.args.key c.args.members c.in_ok-view.view.value c.in_ok-view.ensures.view c.requires.key ranges)

pub returns-clause-effects : goal.returns-clause-effects
returns-clause-effects c =
    let f = c.args.self.now.now in
    let key = c.args.key in
    let ms = c.args.members in
    let to = c.as_slice.result.now in
    let receivers : to ≡ others_among f.me ms =
    c.as_slice.ensures.same ∙ c.others.ensures ∙ ap (λ (v : Viewed). others_among v.me (members_of v.exchange.view)) c.deref.ensures
    ∙ others_entered f key ms c.in_ok-view.view.value c.in_ok-view.ensures.view in
    c.plan.ensures.same
    ∙ c.in_ok-tell_commit.ensures
    ∙ ap (λ (e : Effects). with_sends e (map (λ n. (n, spelling (message.Commit key ms))) to))
    (c.in_ok-view.ensures.lines ∙ ap (λ (e : Effects). then_effects e (lines_only (entering f key ms))) c.new-out.ensures)
    ∙ told_lead f key ms to receivers

pub returns-clause-planned : goal.returns-clause-planned
returns-clause-planned c =
    let f = c.args.self.now.now in
    let a = c.args.agree.agreement in
    let v = c.in_ok-view.view.value in
    c.plan.ensures.planned
    ∙ ap (λ (x : Agreeing). planning c.plan_entering.new.self.now (agreed c.plan_entering.new.self.now x.agreement (Some v))) c.in_ok-agree.ensures.ok
    ∙ ap (λ (p : Planning). planning p.now (agreed p.now a (Some v))) c.in_ok-view.ensures.same
    ∙ ap (planning f) (agreed_alike f a (view_at_entry f c.args.key c.args.members) v c.in_ok-view.ensures.view.alike)
