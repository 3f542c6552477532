use Rattle.std.proofs.Common.{◌≡◌, ℕ, List, true, false, Some, IfOk, OnErr, OnOk, sym, ap, ap₂, subst, ◌∙◌, Bool, if◌then◌else◌}
use Rattle.cluster_types.specs.declared.cluster_key.ClusterKey.{ClusterKey}
use Rattle.cluster_types.specs.declared.member.Member.{Member}
use Rattle.wire_messages.specs.Keys.{IsKeyField}
use Rattle.clustering.specs.Agreeing.{Agreeing}
use Rattle.clustering.specs.Answers.{commit_of}
use Rattle.node_rules.specs.Agreement.{Agreement, committing, may_enter}
use Rattle.node_rules.specs.Effects as rules
use Rattle.node_rules.specs.Effects.{lines_only}
use Rattle.node_rules.specs.Entering.{entering}
use Rattle.node_rules.specs.Exchange.{is_member}
use Rattle.node_rules.specs.Facts.{Facts}
use Rattle.node_rules.specs.Steps.{Planning, planning}
use Rattle.node_view.specs.Views.{view_at_entry}
use Rattle.node_steps.specs.declared.effects.Effects.{Effects}
use Rattle.node_steps.specs.Fits.{FitsAgreed}
use Rattle.node_steps.specs.Plans.{agreed}
use Rattle.node_steps.specs.Ranges.{HasRanges}
use Rattle.node_steps.specs.Spelled.{then_effects, spelled}
use Rattle.node_core.proofs.EnteringLaws.{agreed_alike}
use Rattle.node_core.proofs.HandlerLaws.{commit_enters, commit_stale, still}
use Rattle.node_core.proofs.LeadLaws.{after_commit, after_stale_commit, committed_member, fits_entered, ranges_in_view, stale_commit}
use Rattle.node_core.proofs.CopyLaws.{agreement_is, answer_is, ranges_after}
use Rattle.node_steps.proofs.RangeLaws.{committed_keys}
use Rattle.node_core.proofs.node.Node.on_commit.Goals as goal
use Rattle.node_rules.specs.StaleMessages.{stale}

pub returns-in-Stale-clause-effects : goal.returns-in-Stale-clause-effects
returns-in-Stale-clause-effects c =
    let p = c.args.self.now in
    let key = c.args.key in
    let ms = c.args.members.now in
    let told = answer_is c.self.inside p c.copy.result c.on_commit-agree.result.1 (λ (a : Agreement). commit_of c.copy.result.me a key ms) c.self.view_is c.copy.ensures c.on_commit-agree.ensures.answer in
    let me : c.copy.result.me ≡ p.now.me = ap (λ (a : Agreeing). a.me) c.copy.ensures ∙ c.self.invariant.0.agree ∙ ap (λ (q : Planning). q.now.me) c.self.view_is in
    let none : may_enter p.now.me p.now.agreement key ms ≡ false = ap (λ (n : ℕ). may_enter n p.now.agreement key ms) (sym me) ∙ commit_stale _ key ms (sym told ∙ c.in-Stale.is) in
    subst (λ (e : rules.Effects). IfOk c.stale.result (λ x. x ≡ spelled e)) (sym (stale_commit p.now key ms none)) c.stale.ensures.effects

pub returns-in-Stale-clause-planned : goal.returns-in-Stale-clause-planned
returns-in-Stale-clause-planned c =
    let p = c.args.self.now in
    let key = c.args.key in
    let ms = c.args.members.now in
    let told = answer_is c.self.inside p c.copy.result c.on_commit-agree.result.1 (λ (a : Agreement). commit_of c.copy.result.me a key ms) c.self.view_is c.copy.ensures c.on_commit-agree.ensures.answer in
    let me : c.copy.result.me ≡ p.now.me = ap (λ (a : Agreeing). a.me) c.copy.ensures ∙ c.self.invariant.0.agree ∙ ap (λ (q : Planning). q.now.me) c.self.view_is in
    let none : may_enter p.now.me p.now.agreement key ms ≡ false = ap (λ (n : ℕ). may_enter n p.now.agreement key ms) (sym me) ∙ commit_stale _ key ms (sym told ∙ c.in-Stale.is) in
    subst (λ (g : Facts). OnOk c.stale.result (c.stale.new.self ≡ planning p.now g)) (sym (after_stale_commit p.now key ms none)) c.stale.ensures.planned

pub returns-in-Stale-clause-err : goal.returns-in-Stale-clause-err
returns-in-Stale-clause-err c =
    subst (λ (q : Planning). OnErr c.stale.result (c.stale.new.self ≡ q)) (still c.args.self.now c.requires.unplanned) c.stale.ensures.err

pub plan_entering-requires : goal.plan_entering-requires
plan_entering-requires c =
    let p = c.args.self.now in
    let key = c.args.key in
    let ms = c.args.members.now in
    let told = answer_is c.self.inside p c.copy.result c.on_commit-agree.result.1 (λ (a : Agreement). commit_of c.copy.result.me a key ms) c.self.view_is c.copy.ensures c.on_commit-agree.ensures.answer in
    let me : c.copy.result.me ≡ p.now.me = ap (λ (a : Agreeing). a.me) c.copy.ensures ∙ c.self.invariant.0.agree ∙ ap (λ (q : Planning). q.now.me) c.self.view_is in
    let h = commit_enters _ key ms c.in-Enter.key c.in-Enter.members (sym told ∙ c.in-Enter.is) in
    let member : is_member ms c.copy.result.me ≡ true = committed_member c.copy.result.me p.now.agreement key ms h.may in
    record { member = subst (λ (ns : List Member). is_member ns p.now.me ≡ true) (sym h.members) (subst (λ (n : ℕ). is_member ms n ≡ true) me member) }

pub plan-requires-clause-fits : goal.plan-requires-clause-fits
plan-requires-clause-fits c =
    let p = c.args.self.now in
    let me : c.copy.result.me ≡ p.now.me = ap (λ (a : Agreeing). a.me) c.copy.ensures ∙ c.self.invariant.0.agree ∙ ap (λ (q : Planning). q.now.me) c.self.view_is in
    let agree = c.in_ok-agree-in-Enter.agree.value in
    let own : agree.me ≡ p.now.me = ap (λ (a : Agreeing). a.me) (c.in_ok-agree-in-Enter.ensures.ok ∙ c.on_commit-agree.ensures.agree) ∙ me in
    let view = c.in_ok-view-in-Enter.view in
    subst (λ (q : Planning). FitsAgreed q.now agree (Some view)) (sym c.in_ok-view-in-Enter.ensures.same)
    (fits_entered p.now agree c.in-Enter.key c.in-Enter.members view own c.in_ok-view-in-Enter.ensures.view)

pub plan-requires-clause-ranges : goal.plan-requires-clause-ranges
plan-requires-clause-ranges c =
    let p = c.args.self.now in
    let key = c.args.key in
    let ms = c.args.members.now in
    let told = answer_is c.self.inside p c.copy.result c.on_commit-agree.result.1 (λ (a : Agreement). commit_of c.copy.result.me a key ms) c.self.view_is c.copy.ensures c.on_commit-agree.ensures.answer in
    let h = commit_enters _ key ms c.in-Enter.key c.in-Enter.members (sym told ∙ c.in-Enter.is) in
    let now = c.in_ok-agree-in-Enter.agree.value.agreement in
    let onward : Agreement → Agreement = λ (a : Agreement). committing c.copy.result.me a key ms in
    let is : now ≡ onward p.now.agreement = ap (λ (a : Agreeing). a.agreement) c.in_ok-agree-in-Enter.ensures.ok ∙ agreement_is c.self.inside p c.copy.result c.on_commit-agree.result.0 onward c.self.view_is c.copy.ensures c.on_commit-agree.ensures.agree in
    let ranges : HasRanges (record p.now { agreement = now }) =
    ranges_after c.self.inside p now onward c.self.view_is c.self.invariant.0.ranges is (committed_keys p.now.me p.now.agreement key (may_enter c.copy.result.me p.now.agreement key ms)) in
    let view = c.in_ok-view-in-Enter.view in
    subst (λ (q : Planning). HasRanges (agreed q.now now (Some view.value))) (sym c.in_ok-view-in-Enter.ensures.same)
    (ranges_in_view p.now now c.in-Enter.key c.in-Enter.members view.value c.in_ok-view-in-Enter.ensures.view (subst IsKeyField (sym h.key_of) c.requires.proper.0) ranges)

pub returns-in_ok-view-in-Enter-clause-effects : goal.returns-in_ok-view-in-Enter-clause-effects
returns-in_ok-view-in-Enter-clause-effects c =
    let p = c.args.self.now in
    let key = c.args.key in
    let ms = c.args.members.now in
    let told = answer_is c.self.inside p c.copy.result c.on_commit-agree.result.1 (λ (a : Agreement). commit_of c.copy.result.me a key ms) c.self.view_is c.copy.ensures c.on_commit-agree.ensures.answer in
    let me : c.copy.result.me ≡ p.now.me = ap (λ (a : Agreeing). a.me) c.copy.ensures ∙ c.self.invariant.0.agree ∙ ap (λ (q : Planning). q.now.me) c.self.view_is in
    let h = commit_enters _ key ms c.in-Enter.key c.in-Enter.members (sym told ∙ c.in-Enter.is) in
    let may : may_enter p.now.me p.now.agreement key ms ≡ true = ap (λ (n : ℕ). may_enter n p.now.agreement key ms) (sym me) ∙ h.may in
    c.plan.ensures.same ∙ c.in_ok-view-in-Enter.ensures.lines
    ∙ ap (λ (e : Effects). then_effects e (lines_only (entering p.now c.in-Enter.key c.in-Enter.members))) c.new-out.ensures
    ∙ ap₂ (λ (k : ClusterKey) (ns : List Member). spelled (lines_only (entering p.now k ns))) h.key_of h.members
    ∙ ap (λ (e : rules.Effects). spelled e) (ap (λ (holds : Bool). if holds then lines_only (entering p.now key ms) else stale p.now) (sym may))

pub returns-in_ok-view-in-Enter-clause-planned : goal.returns-in_ok-view-in-Enter-clause-planned
returns-in_ok-view-in-Enter-clause-planned c =
    let p = c.args.self.now in
    let key = c.args.key in
    let ms = c.args.members.now in
    let told = answer_is c.self.inside p c.copy.result c.on_commit-agree.result.1 (λ (a : Agreement). commit_of c.copy.result.me a key ms) c.self.view_is c.copy.ensures c.on_commit-agree.ensures.answer in
    let me : c.copy.result.me ≡ p.now.me = ap (λ (a : Agreeing). a.me) c.copy.ensures ∙ c.self.invariant.0.agree ∙ ap (λ (q : Planning). q.now.me) c.self.view_is in
    let h = commit_enters _ key ms c.in-Enter.key c.in-Enter.members (sym told ∙ c.in-Enter.is) in
    let may : may_enter p.now.me p.now.agreement key ms ≡ true = ap (λ (n : ℕ). may_enter n p.now.agreement key ms) (sym me) ∙ h.may in
    let now = c.in_ok-agree-in-Enter.agree.value.agreement in
    let onward : Agreement → Agreement = λ (a : Agreement). committing c.copy.result.me a key ms in
    let is : now ≡ committing p.now.me p.now.agreement key ms =
    ap (λ (a : Agreeing). a.agreement) c.in_ok-agree-in-Enter.ensures.ok
    ∙ agreement_is c.self.inside p c.copy.result c.on_commit-agree.result.0 onward c.self.view_is c.copy.ensures c.on_commit-agree.ensures.agree
    ∙ ap (λ (n : ℕ). committing n p.now.agreement key ms) me in
    let view = c.in_ok-view-in-Enter.view.value in
    c.plan.ensures.planned
    ∙ ap (λ (q : Planning). planning q.now (agreed q.now now (Some view))) c.in_ok-view-in-Enter.ensures.same
    ∙ ap (planning p.now)
    (agreed_alike p.now now (view_at_entry p.now c.in-Enter.key c.in-Enter.members) view c.in_ok-view-in-Enter.ensures.view.alike
    ∙ ap₂ (λ (k : ClusterKey) (ns : List Member). agreed p.now now (Some (view_at_entry p.now k ns))) h.key_of h.members
    ∙ after_commit p.now key ms now may is)
