use Rattle.std.proofs.Common.{◌≡◌, ℕ, List, Some, refl, sym, ap, ap₂, subst, ◌∙◌}
use Rattle.std.specs.Global.{Box}
use Rattle.cluster_types.specs.declared.cluster_key.ClusterKey.{ClusterKey}
use Rattle.cluster_types.specs.declared.member.Member.{Member}
use Rattle.clustering.specs.declared.steps.ProposalStep.{ProposalStep}
use Rattle.wire_messages.specs.declared.message.Message.TheVariants as message
use Rattle.node_rules.specs.Agreement.{Agreement, enters_alone, next_key, still_proposing, ticking}
use Rattle.node_rules.specs.Effects.{lines_only, sends_only, to_each}
use Rattle.node_rules.specs.Entering.{entering}
use Rattle.node_rules.specs.Exchange.{is_member}
use Rattle.node_rules.specs.Facts.{Facts}
use Rattle.node_rules.specs.Notes.{after_ages, neighbours}
use Rattle.node_rules.specs.Steps.{Planning}
use Rattle.node_rules.specs.Tick.{is_candidate}
use Rattle.node_view.specs.declared.view.View.{View}
use Rattle.node_view.specs.Views.{IsEntered}
use Rattle.node_steps.specs.declared.effects.Effects.{Effects}
use Rattle.node_steps.specs.Ranges.{HasRanges}
use Rattle.node_steps.specs.Spelled.{then_effects}
use Rattle.node_steps.specs.Ticks.{EntersBy, HasEntered}
use Rattle.node_core.proofs.PlannedTickLaws.{among_itself, entered_aged, still_keys, ticking_keys}
use Rattle.node_core.proofs.ProposeLaws.{due_answer, entered_set, promise_lines, proposed_as, sent_key, still_twice, told_answer}
use Rattle.node_steps.proofs.RangeLaws.{HasKeys, keys_of}
use Rattle.node_steps.proofs.SpelledLaws.{told_each, told_nothing}
use Rattle.node_core.proofs.node.Node.propose.Goals as goal

pub tell_proposal-requires : goal.tell_proposal-requires
tell_proposal-requires c =
    let f : Facts = c.args.self.now.now in
    let g : Facts = after_ages f in
    let set : List Member = neighbours g in
    let r : HasRanges f = subst (λ (p : Planning). HasRanges p.now) c.self.view_is c.self.invariant.0.ranges in
    let keys : HasKeys (ticking g.me g.agreement set (is_candidate g)) = ticking_keys g.me g.agreement set (is_candidate g) r.me (still_keys f.agreement set (keys_of f r)) in
    sent_key (enters_alone g.me (still_proposing g.agreement set) set (is_candidate g)) (next_key g.me g.agreement) c.in-Send.key set c.in-Send.members c.in-Send.to
    (ticking g.me g.agreement set (is_candidate g)).proposal keys.proposed (sym c.in-Send.is ∙ c.requires.answered)

pub plan_entering-requires : goal.plan_entering-requires
plan_entering-requires c =
    let f : Facts = c.args.self.now.now in
    let g : Facts = after_ages f in
    let set : List Member = neighbours g in
    let same : c.in-Enter.members ≡ set =
    entered_set (enters_alone g.me (still_proposing g.agreement set) set (is_candidate g)) (next_key g.me g.agreement) c.in-Enter.key set c.in-Enter.members
    (ticking g.me g.agreement set (is_candidate g)).proposal (sym c.in-Enter.is ∙ c.requires.answered) in
    record { member = ap (λ (ms : List Member). is_member ms f.me) same ∙ among_itself g }

pub returns-in-Nothing-clause-effects : goal.returns-in-Nothing-clause-effects
returns-in-Nothing-clause-effects c =
    let f : Facts = c.args.self.now.now in
    let g : Facts = after_ages f in
    let a : Agreement = c.args.agree.now.agreement in
    let told : Effects = then_effects c.args.out.now (lines_only (promise_lines g a.promised)) in
    let promised : c.tell_promise.new.out ≡ told = c.in_ok-tell_promise.ensures ∙ ap (λ (k : ClusterKey). then_effects c.args.out.now (lines_only (promise_lines g k))) c.promised.ensures.value in
    promised ∙ sym (told_nothing told)
    ∙ ap (λ (x : ProposalStep). then_effects told (due_answer g x)) (sym c.in-Nothing.is)
    ∙ told_answer c.args.out.now g a c.args.proposal.now (proposed_as g a c.args.proposal.now (still_twice f.agreement (neighbours g)) c.requires.agreement c.requires.answered)

pub returns-in_ok-tell_proposal-in-Send-clause-effects : goal.returns-in_ok-tell_proposal-in-Send-clause-effects
returns-in_ok-tell_proposal-in-Send-clause-effects c =
    let f : Facts = c.args.self.now.now in
    let g : Facts = after_ages f in
    let a : Agreement = c.args.agree.now.agreement in
    let told : Effects = then_effects c.args.out.now (lines_only (promise_lines g a.promised)) in
    let promised : c.tell_promise.new.out ≡ told = c.in_ok-tell_promise.ensures ∙ ap (λ (k : ClusterKey). then_effects c.args.out.now (lines_only (promise_lines g k))) c.promised.ensures.value in
    c.in_ok-tell_proposal-in-Send.ensures
    ∙ told_each c.tell_promise.new.out c.as_slice.result.now (message.Propose c.in-Send.key c.in-Send.members)
    ∙ ap₂ (λ (o : Effects) (ns : List ℕ). then_effects o (sends_only (to_each ns (message.Propose c.in-Send.key c.in-Send.members)))) promised c.as_slice.ensures.same
    ∙ ap (λ (x : ProposalStep). then_effects told (due_answer g x)) (sym c.in-Send.is)
    ∙ told_answer c.args.out.now g a c.args.proposal.now (proposed_as g a c.args.proposal.now (still_twice f.agreement (neighbours g)) c.requires.agreement c.requires.answered)

pub returns-in_ok-plan_entering-in-Enter-clause-effects : goal.returns-in_ok-plan_entering-in-Enter-clause-effects
returns-in_ok-plan_entering-in-Enter-clause-effects c =
    let f : Facts = c.args.self.now.now in
    let g : Facts = after_ages f in
    let a : Agreement = c.args.agree.now.agreement in
    let told : Effects = then_effects c.args.out.now (lines_only (promise_lines g a.promised)) in
    let promised : c.tell_promise.new.out ≡ told = c.in_ok-tell_promise.ensures ∙ ap (λ (k : ClusterKey). then_effects c.args.out.now (lines_only (promise_lines g k))) c.promised.ensures.value in
    c.in_ok-plan_entering-in-Enter.ensures.lines
    ∙ ap (λ (o : Effects). then_effects o (lines_only (entering f c.in-Enter.key c.in-Enter.members))) promised
    ∙ ap (λ (x : ProposalStep). then_effects told (due_answer g x)) (sym c.in-Enter.is)
    ∙ told_answer c.args.out.now g a c.args.proposal.now (proposed_as g a c.args.proposal.now (still_twice f.agreement (neighbours g)) c.requires.agreement c.requires.answered)

pub returns-in_ok-plan_entering-in-Enter-clause-view : goal.returns-in_ok-plan_entering-in-Enter-clause-view
returns-in_ok-plan_entering-in-Enter-clause-view c =
    let f : Facts = c.args.self.now.now in
    let entered : Box View = c.in_ok-plan_entering-in-Enter.field-0 in
    let h : HasEntered (after_ages f) c.in-Enter.key c.in-Enter.members (Some entered) = record {
      some = refl;
      view = λ v e. let same : entered ≡ v = cc in
          subst (λ (x : Box View). IsEntered (after_ages f) c.in-Enter.key c.in-Enter.members x.value) same
          (entered_aged f c.in-Enter.key c.in-Enter.members entered.value c.in_ok-plan_entering-in-Enter.ensures.view);
    } in
    subst (λ (x : ProposalStep). EntersBy (after_ages f) x (Some entered)) (sym c.in-Enter.is) h
