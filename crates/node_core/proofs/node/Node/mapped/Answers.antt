use Rattle.std.proofs.Common.{rules, ◌≡◌, true, None, Some, sym, ap, ◌∙◌}
use Rattle.std.proofs.lemmas.Bool.{and_left, and_right}
use Rattle.node_rules.specs.Exchange.{Exchange, first_missing, members_of}
use Rattle.node_rules.specs.Facts.{Facts}
use Rattle.node_rules.specs.Steps.{Planning}
use Rattle.node_steps.proofs.MemberLaws.{not_false, not_true}
use Rattle.node_core.proofs.ShowingLaws.{refused_outside, refused_waiting}
use Rattle.node_steps.proofs.ViewLaws.{exchange_is}
use Rattle.node_core.proofs.node.Node.mapped.Goals as goal

pub returns-then-not-self-clause-unfinished : goal.returns-then-not-self-clause-unfinished
returns-then-not-self-clause-unfinished c =
    let f : Facts = c.args.self.now.now in
    and_left f.up f.exchange.exchanged (ap (λ (p : Planning). p.now.up) (sym c.self.view_is) ∙ c.if-not-self.true)

pub returns-in_default-clause-refused : goal.returns-in_default-clause-refused
returns-in_default-clause-refused c =
    let f : Facts = c.args.self.now.now in
    let up : f.up ≡ true = ap (λ (p : Planning). p.now.up) (sym c.self.view_is) ∙ c.if-not-self.false in
    refused_outside f up (sym c.in_default.ensures.some)

pub returns-in_default-clause-unfinished : goal.returns-in_default-clause-unfinished
returns-in_default-clause-unfinished c =
    let f : Facts = c.args.self.now.now in
    and_right f.up f.exchange.exchanged (sym (ap (λ (g : Facts). g.exchange.exchanged) (c.own_view.ensures.none c.in_default.is)))

pub returns-in-Some-exchanging-clause-refused : goal.returns-in-Some-exchanging-clause-refused
returns-in-Some-exchanging-clause-refused c =
    let f : Facts = c.args.self.now.now in
    let up : f.up ≡ true = ap (λ (p : Planning). p.now.up) (sym c.self.view_is) ∙ c.if-not-self.false in
    let same : c.in-Some.view.now.exchange ≡ f.exchange = exchange_is f c.in-Some.view.now c.in-Some.ensures.view.viewed in
    refused_waiting f (Some c.missing.result) up (sym c.in-Some.ensures.some)
    (ap (λ (x : Exchange). first_missing x.rows (members_of x.view)) (sym same ∙ sym c.in-Some-exchanging.ensures.exchange) ∙ c.missing.ensures)

pub returns-in-Some-exchanging-clause-unfinished : goal.returns-in-Some-exchanging-clause-unfinished
returns-in-Some-exchanging-clause-unfinished c =
    let f : Facts = c.args.self.now.now in
    let same : c.in-Some.view.now.exchange ≡ f.exchange = exchange_is f c.in-Some.view.now c.in-Some.ensures.view.viewed in
    and_right f.up f.exchange.exchanged (ap (λ (x : Exchange). x.exchanged) (sym same) ∙ not_true c.in-Some.view.now.exchange.exchanged c.in-Some-exchanging.ensures.some)

pub returns-in-None-clause-exchanged : goal.returns-in-None-clause-exchanged
returns-in-None-clause-exchanged c = not_false c.in-Some.view.now.exchange.exchanged c.in-None.ensures.some

pub returns-in-None-clause-refused : goal.returns-in-None-clause-refused
returns-in-None-clause-refused c =
    let f : Facts = c.args.self.now.now in
    let up : f.up ≡ true = ap (λ (p : Planning). p.now.up) (sym c.self.view_is) ∙ c.if-not-self.false in
    let same : c.in-Some.view.now.exchange ≡ f.exchange = exchange_is f c.in-Some.view.now c.in-Some.ensures.view.viewed in
    refused_waiting f None up (sym c.in-Some.ensures.some)
    (ap (λ (x : Exchange). first_missing x.rows (members_of x.view)) (sym same) ∙ c.in-None.ensures.whole)

pub returns-then-not-self-clause-refused : goal.returns-then-not-self-clause-refused
returns-then-not-self-clause-refused c = search rules
