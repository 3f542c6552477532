use Rattle.std.proofs.Common.{◌≡◌, ℕ, true, false, IfOk, OnErr, OnOk, sym, ap, subst, ◌∙◌}
use Rattle.clustering.specs.Agreeing.{Agreeing}
use Rattle.clustering.specs.Answers.{IsEnteredBy, accept_of}
use Rattle.node_rules.specs.Agreement.{Agreement, counting, proposes}
use Rattle.node_rules.specs.Effects as rules
use Rattle.node_rules.specs.Exchange.{is_member}
use Rattle.node_rules.specs.Facts.{Facts}
use Rattle.node_rules.specs.Steps.{Planning, planning}
use Rattle.node_steps.specs.Ranges.{HasRanges}
use Rattle.node_steps.specs.declared.effects.Effects.{Effects}
use Rattle.node_steps.specs.Spelled.{spelled}
use Rattle.node_core.proofs.HandlerLaws.{accept_enters, accept_stale, accept_waits, still}
use Rattle.node_core.proofs.LeadLaws.{accepted_by_all, accepted_key, after_last_accept, after_stale_accept, after_waiting_accept, last_accept, stale_accept, waiting_accept}
use Rattle.node_core.proofs.CopyLaws.{agreement_is, answer_is, ranges_after}
use Rattle.node_steps.proofs.RangeLaws.{counted_keys}
use Rattle.node_core.proofs.node.Node.on_accept.Goals as goal

pub returns-in-Stale-clause-effects : goal.returns-in-Stale-clause-effects
returns-in-Stale-clause-effects c =
    let p = c.args.self.now in
    let told = answer_is c.self.inside p c.copy.result c.on_accept-agree.result.1 (λ (a : Agreement). accept_of a c.args.from c.args.key) c.self.view_is c.copy.ensures c.on_accept-agree.ensures.answer in
    let none : proposes p.now.agreement.proposal c.args.key ≡ false = accept_stale _ _ _ _ (sym told ∙ c.in-Stale.is) in
    subst (λ (e : rules.Effects). IfOk c.stale.result (λ x. x ≡ spelled e)) (sym (stale_accept p.now c.args.from c.args.key none)) c.stale.ensures.effects

pub returns-in-Stale-clause-planned : goal.returns-in-Stale-clause-planned
returns-in-Stale-clause-planned c =
    let p = c.args.self.now in
    let told = answer_is c.self.inside p c.copy.result c.on_accept-agree.result.1 (λ (a : Agreement). accept_of a c.args.from c.args.key) c.self.view_is c.copy.ensures c.on_accept-agree.ensures.answer in
    let none : proposes p.now.agreement.proposal c.args.key ≡ false = accept_stale _ _ _ _ (sym told ∙ c.in-Stale.is) in
    subst (λ (g : Facts). OnOk c.stale.result (c.stale.new.self ≡ planning p.now g)) (sym (after_stale_accept p.now c.args.from c.args.key none)) c.stale.ensures.planned

pub returns-in-Stale-clause-err : goal.returns-in-Stale-clause-err
returns-in-Stale-clause-err c =
    subst (λ (q : Planning). OnErr c.stale.result (c.stale.new.self ≡ q)) (still c.args.self.now c.requires.unplanned) c.stale.ensures.err

pub plan_agreed-requires-clause-ranges : goal.plan_agreed-requires-clause-ranges
plan_agreed-requires-clause-ranges c =
    let p = c.args.self.now in
    let onward : Agreement → Agreement = λ (a : Agreement). counting a c.args.from c.args.key in
    let is : c.on_accept-agree.result.0.agreement ≡ onward p.now.agreement = agreement_is c.self.inside p c.copy.result c.on_accept-agree.result.0 onward c.self.view_is c.copy.ensures c.on_accept-agree.ensures.agree in
    ranges_after c.self.inside p c.on_accept-agree.result.0.agreement onward c.self.view_is c.self.invariant.0.ranges is (counted_keys p.now.agreement c.args.from c.args.key)

pub returns-in-Waiting-clause-effects : goal.returns-in-Waiting-clause-effects
returns-in-Waiting-clause-effects c =
    let p = c.args.self.now in
    let told = answer_is c.self.inside p c.copy.result c.on_accept-agree.result.1 (λ (a : Agreement). accept_of a c.args.from c.args.key) c.self.view_is c.copy.ensures c.on_accept-agree.ensures.answer in
    let waits = accept_waits _ _ _ _ (sym told ∙ c.in-Waiting.is) in
    let told_so = c.new.ensures ∙ ap spelled (sym (waiting_accept p.now c.args.from c.args.key waits.0 waits.1)) in
    subst (λ (e : Effects). IfOk c.plan_agreed.result (λ r. r ≡ e)) told_so c.plan_agreed.ensures.same

pub returns-in-Waiting-clause-planned : goal.returns-in-Waiting-clause-planned
returns-in-Waiting-clause-planned c =
    let p = c.args.self.now in
    let onward : Agreement → Agreement = λ (a : Agreement). counting a c.args.from c.args.key in
    let is : c.on_accept-agree.result.0.agreement ≡ onward p.now.agreement = agreement_is c.self.inside p c.copy.result c.on_accept-agree.result.0 onward c.self.view_is c.copy.ensures c.on_accept-agree.ensures.agree in
    let told = answer_is c.self.inside p c.copy.result c.on_accept-agree.result.1 (λ (a : Agreement). accept_of a c.args.from c.args.key) c.self.view_is c.copy.ensures c.on_accept-agree.ensures.answer in
    let waits = accept_waits _ _ _ _ (sym told ∙ c.in-Waiting.is) in
    let after = ap (λ (a : Agreement). planning p.now (record p.now { agreement = a })) is
    ∙ ap (planning p.now) (sym (after_waiting_accept p.now c.args.from c.args.key waits.0 waits.1)) in
    subst (λ (q : Planning). OnOk c.plan_agreed.result (c.plan_agreed.new.self ≡ q)) after c.plan_agreed.ensures.planned

pub returns-in-Waiting-clause-err : goal.returns-in-Waiting-clause-err
returns-in-Waiting-clause-err c =
    subst (λ (q : Planning). OnErr c.plan_agreed.result (c.plan_agreed.new.self ≡ q)) (still c.args.self.now c.requires.unplanned) c.plan_agreed.ensures.err

pub lead-requires-clause-member : goal.lead-requires-clause-member
lead-requires-clause-member c =
    let member : is_member c.in-Enter.members c.copy.result.me ≡ true = subst (IsEnteredBy c.copy.result.me) c.in-Enter.is c.on_accept-agree.ensures.member in
    let me : c.copy.result.me ≡ c.args.self.now.now.me = ap (λ (a : Agreeing). a.me) c.copy.ensures ∙ c.self.invariant.0.agree ∙ ap (λ (p : Planning). p.now.me) c.self.view_is in
    subst (λ (n : ℕ). is_member c.in-Enter.members n ≡ true) me member

pub lead-requires-clause-key : goal.lead-requires-clause-key
lead-requires-clause-key c =
    let p = c.args.self.now in
    let told = answer_is c.self.inside p c.copy.result c.on_accept-agree.result.1 (λ (a : Agreement). accept_of a c.args.from c.args.key) c.self.view_is c.copy.ensures c.on_accept-agree.ensures.answer in
    let h = accept_enters _ _ _ _ c.in-Enter.key c.in-Enter.members (sym told ∙ c.in-Enter.is) in
    let all = accepted_by_all p.now.agreement.proposal c.args.from c.args.key c.in-Enter.key c.in-Enter.members h.proposed h.last h.key_of h.members in
    let ranges : HasRanges p.now = subst (λ (q : Planning). HasRanges q.now) c.self.view_is c.self.invariant.0.ranges in
    accepted_key p.now.agreement.proposal c.args.from c.in-Enter.key c.in-Enter.members all ranges.proposed

pub lead-requires-clause-ranges : goal.lead-requires-clause-ranges
lead-requires-clause-ranges c =
    let p = c.args.self.now in
    let onward : Agreement → Agreement = λ (a : Agreement). counting a c.args.from c.args.key in
    let is : c.on_accept-agree.result.0.agreement ≡ onward p.now.agreement = agreement_is c.self.inside p c.copy.result c.on_accept-agree.result.0 onward c.self.view_is c.copy.ensures c.on_accept-agree.ensures.agree in
    ranges_after c.self.inside p c.on_accept-agree.result.0.agreement onward c.self.view_is c.self.invariant.0.ranges is (counted_keys p.now.agreement c.args.from c.args.key)

pub returns-in-Enter-clause-effects : goal.returns-in-Enter-clause-effects
returns-in-Enter-clause-effects c =
    let p = c.args.self.now in
    let told = answer_is c.self.inside p c.copy.result c.on_accept-agree.result.1 (λ (a : Agreement). accept_of a c.args.from c.args.key) c.self.view_is c.copy.ensures c.on_accept-agree.ensures.answer in
    let h = accept_enters _ _ _ _ c.in-Enter.key c.in-Enter.members (sym told ∙ c.in-Enter.is) in
    let all = accepted_by_all p.now.agreement.proposal c.args.from c.args.key c.in-Enter.key c.in-Enter.members h.proposed h.last h.key_of h.members in
    subst (λ (e : rules.Effects). IfOk c.lead.result (λ x. x ≡ spelled e)) (sym (last_accept p.now c.args.from c.args.key c.in-Enter.key c.in-Enter.members h.proposed all)) c.lead.ensures.effects

pub returns-in-Enter-clause-planned : goal.returns-in-Enter-clause-planned
returns-in-Enter-clause-planned c =
    let p = c.args.self.now in
    let from = c.args.from in
    let key = c.args.key in
    let k = c.in-Enter.key in
    let ms = c.in-Enter.members in
    let onward : Agreement → Agreement = λ (a : Agreement). counting a from key in
    let is : c.on_accept-agree.result.0.agreement ≡ onward p.now.agreement = agreement_is c.self.inside p c.copy.result c.on_accept-agree.result.0 onward c.self.view_is c.copy.ensures c.on_accept-agree.ensures.agree in
    let told = answer_is c.self.inside p c.copy.result c.on_accept-agree.result.1 (λ (a : Agreement). accept_of a from key) c.self.view_is c.copy.ensures c.on_accept-agree.ensures.answer in
    let h = accept_enters _ _ _ _ k ms (sym told ∙ c.in-Enter.is) in
    let all = accepted_by_all p.now.agreement.proposal from key k ms h.proposed h.last h.key_of h.members in
    let member : is_member ms c.copy.result.me ≡ true = subst (IsEnteredBy c.copy.result.me) c.in-Enter.is c.on_accept-agree.ensures.member in
    let me : c.copy.result.me ≡ p.now.me = ap (λ (a : Agreeing). a.me) c.copy.ensures ∙ c.self.invariant.0.agree ∙ ap (λ (q : Planning). q.now.me) c.self.view_is in
    subst (λ (g : Facts). OnOk c.lead.result (c.lead.new.self ≡ planning p.now g))
    (after_last_accept p.now from key k ms c.on_accept-agree.result.0.agreement h.proposed h.last h.key_of all is (subst (λ (n : ℕ). is_member ms n ≡ true) me member))
    c.lead.ensures.planned

pub returns-in-Enter-clause-err : goal.returns-in-Enter-clause-err
returns-in-Enter-clause-err c =
    subst (λ (q : Planning). OnErr c.lead.result (c.lead.new.self ≡ q)) (still c.args.self.now c.requires.unplanned) c.lead.ensures.err
