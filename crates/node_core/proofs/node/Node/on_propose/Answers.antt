use Rattle.std.proofs.Common.{◌≡◌, ℕ, [], ◌∷◌, not, IfOk, OnErr, OnOk, sym, ap, ap₂, subst, ◌∙◌}
use Rattle.cluster_types.specs.declared.cluster_key.ClusterKey.{ClusterKey}
use Rattle.journal_lines.specs.declared.line.Line.TheVariants as line
use Rattle.wire_messages.specs.declared.message.Message.{Message}
use Rattle.wire_messages.specs.Proper.{IsProper}
use Rattle.wire_messages.specs.Spelling.{spelling}
use Rattle.clustering.specs.Answers.{vote_of}
use Rattle.node_rules.specs.Agreement.{Agreement, voting}
use Rattle.node_rules.specs.Effects.{lines_only}
use Rattle.node_rules.specs.Keys.{same_key}
use Rattle.node_rules.specs.Steps.{Planning, planning}
use Rattle.node_rules.proofs.PartLaws.{propose_is}
use Rattle.node_rules.specs.Tables.{only_if}
use Rattle.node_steps.specs.declared.effects.Effects.{Effects}
use Rattle.node_steps.specs.Ranges.{HasRanges}
use Rattle.node_steps.specs.Spelled.{vote_message, spelled, with_sends}
use Rattle.node_core.proofs.HandlerLaws.{still, told_vote, vote_proper}
use Rattle.node_core.proofs.CopyLaws.{agreement_is, answer_is, ranges_after}
use Rattle.node_steps.proofs.RangeLaws.{voted_keys}
use Rattle.node_core.proofs.node.Node.on_propose.Goals as goal

pub send-requires : goal.send-requires
send-requires c =
    let p = c.args.self.now in
    let told = answer_is c.self.inside p c.copy.result c.on_propose-agree.result.1 (λ (a : Agreement). vote_of a c.args.key) c.self.view_is c.copy.ensures c.on_propose-agree.ensures.vote in
    let now : HasRanges p.now = subst (λ (q : Planning). HasRanges q.now) c.self.view_is c.self.invariant.0.ranges in
    subst IsProper (sym (c.message_of.ensures ∙ ap vote_message told)) (vote_proper p.now.agreement c.args.key c.requires.proper.0 now.promised)

pub plan_agreed-requires-clause-ranges : goal.plan_agreed-requires-clause-ranges
plan_agreed-requires-clause-ranges c =
    let p = c.args.self.now in
    let onward : Agreement → Agreement = λ (a : Agreement). voting a c.args.key in
    let is : c.on_propose-agree.result.0.agreement ≡ onward p.now.agreement = agreement_is c.self.inside p c.copy.result c.on_propose-agree.result.0 onward c.self.view_is c.copy.ensures c.on_propose-agree.ensures.agree in
    ranges_after c.self.inside p c.on_propose-agree.result.0.agreement onward c.self.view_is c.self.invariant.0.ranges is (voted_keys p.now.agreement c.args.key c.requires.proper.0)

pub returns-clause-effects : goal.returns-clause-effects
returns-clause-effects c =
    let p = c.args.self.now in
    let onward : Agreement → Agreement = λ (a : Agreement). voting a c.args.key in
    let is : c.on_propose-agree.result.0.agreement ≡ onward p.now.agreement = agreement_is c.self.inside p c.copy.result c.on_propose-agree.result.0 onward c.self.view_is c.copy.ensures c.on_propose-agree.ensures.agree in
    let told = answer_is c.self.inside p c.copy.result c.on_propose-agree.result.1 (λ (a : Agreement). vote_of a c.args.key) c.self.view_is c.copy.ensures c.on_propose-agree.ensures.vote in
    let promise : ClusterKey → Effects = λ (k : ClusterKey). spelled (lines_only (only_if (line.Promise p.now.me k) (not (same_key k p.now.agreement.promised)))) in
    let out_is : c.in_ok-out.out ≡ promise (onward p.now.agreement).promised = c.in_ok-out.ensures ∙ ap promise (c.promised.ensures.value ∙ ap (λ (a : Agreement). a.promised) is) in
    let told_so = c.in_ok-send.ensures
    ∙ ap (λ (n : ℕ). with_sends c.in_ok-out.out ((n, spelling c.message_of.result) ∷ [])) c.number.ensures.same
    ∙ ap₂ (λ (o : Effects) (m : Message). with_sends o ((c.args.from, spelling m) ∷ [])) out_is (c.message_of.ensures ∙ ap vote_message told)
    ∙ told_vote p.now c.args.from c.args.key in
    subst (λ (e : Effects). IfOk c.plan_agreed.result (λ r. r ≡ e)) told_so c.plan_agreed.ensures.same

pub returns-clause-planned : goal.returns-clause-planned
returns-clause-planned c =
    let p = c.args.self.now in
    let onward : Agreement → Agreement = λ (a : Agreement). voting a c.args.key in
    let is : c.on_propose-agree.result.0.agreement ≡ onward p.now.agreement = agreement_is c.self.inside p c.copy.result c.on_propose-agree.result.0 onward c.self.view_is c.copy.ensures c.on_propose-agree.ensures.agree in
    let after = ap (λ (a : Agreement). planning p.now (record p.now { agreement = a })) is ∙ ap (planning p.now) (sym (propose_is p.now 0 c.args.from c.args.key c.args.members.now)) in
    subst (λ (q : Planning). OnOk c.plan_agreed.result (c.plan_agreed.new.self ≡ q)) after c.plan_agreed.ensures.planned

pub returns-clause-err : goal.returns-clause-err
returns-clause-err c =
    subst (λ (q : Planning). OnErr c.plan_agreed.result (c.plan_agreed.new.self ≡ q)) (still c.args.self.now c.requires.unplanned) c.plan_agreed.ensures.err
