use Rattle.std.proofs.Common.{◌≡◌, Some, None, IfOk, OnErr, OnOk, sym, subst}
use Rattle.node_rules.specs.Requests.{due_request}
use Rattle.node_rules.specs.Steps.{Planning, after_request, planning}
use Rattle.node_core.specs.declared.answered.Answered.{Answered}
use Rattle.node_steps.specs.declared.effects.Effects.{Effects}
use Rattle.node_steps.specs.Counts.{HaveNumbers}
use Rattle.node_steps.specs.Spelled.{spelled}
use Rattle.node_core.proofs.RequestLaws.{opened_answer, refusal_is, refused_after, refused_answer, refused_due}
use Rattle.node_core.proofs.node.Node.request.Goals as goal

pub returns-in-Some-clause-answer : goal.returns-in-Some-clause-answer
returns-in-Some-clause-answer c =
    let f = c.args.self.now.now in
    let refused = refusal_is c.give_up.new.self f c.args.d (Some c.in-Some.cause) c.give_up.ensures c.in-Some.ensures in
    subst (λ (a : Answered). IfOk c.refuse.result (λ r. r.0 ≡ a)) (refused_answer f c.args.d c.in-Some.cause refused) c.refuse.ensures.answer

pub returns-in-Some-clause-effects : goal.returns-in-Some-clause-effects
returns-in-Some-clause-effects c =
    let f = c.args.self.now.now in
    let refused = refusal_is c.give_up.new.self f c.args.d (Some c.in-Some.cause) c.give_up.ensures c.in-Some.ensures in
    subst (λ (e : Effects). IfOk c.refuse.result (λ r. r.1 ≡ e)) (refused_due c.give_up.new.self f c.args.clock c.args.d c.args.want c.in-Some.cause c.give_up.ensures refused) c.refuse.ensures.effects

pub returns-in-Some-clause-planned : goal.returns-in-Some-clause-planned
returns-in-Some-clause-planned c =
    let f = c.args.self.now.now in
    let refused = refusal_is c.give_up.new.self f c.args.d (Some c.in-Some.cause) c.give_up.ensures c.in-Some.ensures in
    subst (λ (q : Planning). OnOk c.refuse.result (c.refuse.new.self ≡ q)) (refused_after c.give_up.new.self f c.args.clock c.args.d c.args.want c.in-Some.cause c.give_up.ensures refused) c.refuse.ensures.planned

pub returns-in-Some-clause-err : goal.returns-in-Some-clause-err
returns-in-Some-clause-err c =
    subst (λ (q : Planning). OnErr c.refuse.result (c.refuse.new.self ≡ q)) c.give_up.ensures c.refuse.ensures.err

pub open_transaction-requires-clause-counts : goal.open_transaction-requires-clause-counts
open_transaction-requires-clause-counts c =
    subst (λ (p : Planning). HaveNumbers p.now) (sym c.give_up.ensures) c.requires.counts

pub returns-in-None-clause-answer : goal.returns-in-None-clause-answer
returns-in-None-clause-answer c =
    let f = c.args.self.now.now in
    let accepted = refusal_is c.give_up.new.self f c.args.d None c.give_up.ensures c.in-None.ensures in
    subst (λ (a : Answered). IfOk c.open_transaction.result (λ r. r.0 ≡ a)) (opened_answer c.give_up.new.self f c.args.d c.give_up.ensures accepted) c.open_transaction.ensures.answer

pub returns-in-None-clause-effects : goal.returns-in-None-clause-effects
returns-in-None-clause-effects c =
    subst (λ (p : Planning). IfOk c.open_transaction.result (λ r. r.1 ≡ spelled (due_request p.now c.args.clock c.args.d c.args.want))) c.give_up.ensures c.open_transaction.ensures.effects

pub returns-in-None-clause-planned : goal.returns-in-None-clause-planned
returns-in-None-clause-planned c =
    subst (λ (p : Planning). OnOk c.open_transaction.result (c.open_transaction.new.self ≡ planning p.now (after_request p.now c.args.clock c.args.d c.args.want))) c.give_up.ensures c.open_transaction.ensures.planned

pub returns-in-None-clause-err : goal.returns-in-None-clause-err
returns-in-None-clause-err c =
    subst (λ (q : Planning). OnErr c.open_transaction.result (c.open_transaction.new.self ≡ q)) c.give_up.ensures c.open_transaction.ensures.err
