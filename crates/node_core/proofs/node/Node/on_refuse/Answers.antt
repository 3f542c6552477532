use Rattle.std.proofs.Common.{◌≡◌, ℕ, [], ◌∷◌, Bool, true, false, IfOk, OnErr, OnOk, sym, ap, subst, ◌∙◌, if◌then◌else◌}
use Rattle.journal_lines.specs.declared.line.Line.TheVariants as line
use Rattle.clustering.specs.Answers.{refuse_of}
use Rattle.node_rules.specs.Agreement.{Agreement, proposes, refusing}
use Rattle.node_rules.specs.Steps.{Planning, planning}
use Rattle.node_rules.proofs.PartLaws.{refuse_is}
use Rattle.node_steps.specs.declared.effects.Effects.{Effects}
use Rattle.node_steps.specs.Spelled.{spelled}
use Rattle.node_core.proofs.HandlerLaws.{is_stale, is_stopped, still}
use Rattle.node_core.proofs.CopyLaws.{agreement_is, answer_is, ranges_after}
use Rattle.node_steps.proofs.RangeLaws.{refused_keys}
use Rattle.node_core.proofs.node.Node.on_refuse.Goals as goal
use Rattle.node_rules.specs.Effects.{nothing}
use Rattle.node_rules.specs.StaleMessages.{stale}

pub plan_agreed-requires-clause-ranges : goal.plan_agreed-requires-clause-ranges
plan_agreed-requires-clause-ranges c =
    let p = c.args.self.now in
    let onward : Agreement → Agreement = λ (a : Agreement). refusing a c.args.refused c.args.promised in
    let is : c.on_refuse-agree.result.0.agreement ≡ onward p.now.agreement = agreement_is c.self.inside p c.copy.result c.on_refuse-agree.result.0 onward c.self.view_is c.copy.ensures c.on_refuse-agree.ensures.agree in
    ranges_after c.self.inside p c.on_refuse-agree.result.0.agreement onward c.self.view_is c.self.invariant.0.ranges is (refused_keys p.now.agreement c.args.refused c.args.promised)

pub plan_agreed-requires-in-Stale-clause-ranges : goal.plan_agreed-requires-in-Stale-clause-ranges
plan_agreed-requires-in-Stale-clause-ranges c =
    let p = c.args.self.now in
    let onward : Agreement → Agreement = λ (a : Agreement). refusing a c.args.refused c.args.promised in
    let is : c.on_refuse-agree.result.0.agreement ≡ onward p.now.agreement = agreement_is c.self.inside p c.copy.result c.on_refuse-agree.result.0 onward c.self.view_is c.copy.ensures c.on_refuse-agree.ensures.agree in
    ranges_after c.self.inside p c.on_refuse-agree.result.0.agreement onward c.self.view_is c.self.invariant.0.ranges is (refused_keys p.now.agreement c.args.refused c.args.promised)

pub returns-in-Stopped-clause-effects : goal.returns-in-Stopped-clause-effects
returns-in-Stopped-clause-effects c =
    let p = c.args.self.now in
    let told = answer_is c.self.inside p c.copy.result c.on_refuse-agree.result.1 (λ (a : Agreement). refuse_of a c.args.refused) c.self.view_is c.copy.ensures c.on_refuse-agree.ensures.answer in
    let held : proposes p.now.agreement.proposal c.args.refused ≡ true = is_stopped _ (sym told ∙ c.in-Stopped.is) in
    let told_so = c.new.ensures ∙ ap (λ (b : Bool). spelled (if b then nothing else stale p.now)) (sym held) in
    subst (λ (e : Effects). IfOk c.plan_agreed.result (λ r. r ≡ e)) told_so c.plan_agreed.ensures.same

pub returns-in-Stopped-clause-planned : goal.returns-in-Stopped-clause-planned
returns-in-Stopped-clause-planned c =
    let p = c.args.self.now in
    let onward : Agreement → Agreement = λ (a : Agreement). refusing a c.args.refused c.args.promised in
    let is : c.on_refuse-agree.result.0.agreement ≡ onward p.now.agreement = agreement_is c.self.inside p c.copy.result c.on_refuse-agree.result.0 onward c.self.view_is c.copy.ensures c.on_refuse-agree.ensures.agree in
    let after = ap (λ (a : Agreement). planning p.now (record p.now { agreement = a })) is ∙ ap (planning p.now) (sym (refuse_is p.now 0 0 c.args.refused c.args.promised)) in
    subst (λ (q : Planning). OnOk c.plan_agreed.result (c.plan_agreed.new.self ≡ q)) after c.plan_agreed.ensures.planned

pub returns-in_ok-out-in-Stale-clause-effects : goal.returns-in_ok-out-in-Stale-clause-effects
returns-in_ok-out-in-Stale-clause-effects c =
    let p = c.args.self.now in
    let told = answer_is c.self.inside p c.copy.result c.on_refuse-agree.result.1 (λ (a : Agreement). refuse_of a c.args.refused) c.self.view_is c.copy.ensures c.on_refuse-agree.ensures.answer in
    let none : proposes p.now.agreement.proposal c.args.refused ≡ false = is_stale _ (sym told ∙ c.in-Stale.is) in
    let line_of : ℕ → Effects = λ (n : ℕ). record { lines = line.Stale n ∷ []; sends = [] } in
    let told_so = c.in_ok-out-in-Stale.ensures ∙ ap line_of c.number-endpoint.ensures.same ∙ ap (λ (q : Planning). line_of q.now.me) c.self.view_is
    ∙ ap (λ (b : Bool). spelled (if b then nothing else stale p.now)) (sym none) in
    subst (λ (e : Effects). IfOk c.plan_agreed-in-Stale.result (λ r. r ≡ e)) told_so c.plan_agreed-in-Stale.ensures.same

pub returns-in_ok-out-in-Stale-clause-planned : goal.returns-in_ok-out-in-Stale-clause-planned
returns-in_ok-out-in-Stale-clause-planned c =
    let p = c.args.self.now in
    let onward : Agreement → Agreement = λ (a : Agreement). refusing a c.args.refused c.args.promised in
    let is : c.on_refuse-agree.result.0.agreement ≡ onward p.now.agreement = agreement_is c.self.inside p c.copy.result c.on_refuse-agree.result.0 onward c.self.view_is c.copy.ensures c.on_refuse-agree.ensures.agree in
    let after = ap (λ (a : Agreement). planning p.now (record p.now { agreement = a })) is ∙ ap (planning p.now) (sym (refuse_is p.now 0 0 c.args.refused c.args.promised)) in
    subst (λ (q : Planning). OnOk c.plan_agreed-in-Stale.result (c.plan_agreed-in-Stale.new.self ≡ q)) after c.plan_agreed-in-Stale.ensures.planned

pub returns-in-Stopped-clause-err : goal.returns-in-Stopped-clause-err
returns-in-Stopped-clause-err c =
    subst (λ (q : Planning). OnErr c.plan_agreed.result (c.plan_agreed.new.self ≡ q)) (still c.args.self.now c.requires.unplanned) c.plan_agreed.ensures.err

pub returns-in_ok-out-in-Stale-clause-err : goal.returns-in_ok-out-in-Stale-clause-err
returns-in_ok-out-in-Stale-clause-err c =
    subst (λ (q : Planning). OnErr c.plan_agreed-in-Stale.result (c.plan_agreed-in-Stale.new.self ≡ q)) (still c.args.self.now c.requires.unplanned) c.plan_agreed-in-Stale.ensures.err
