use Rattle.std.proofs.Common.{◌≡◌, IfOk, OnErr, OnOk, sym, ap, subst, ◌∙◌}
use Rattle.node_rules.specs.Batches.{has_number, out_to}
use Rattle.node_rules.specs.Effects as rules
use Rattle.node_rules.specs.Facts.{Facts}
use Rattle.node_rules.specs.Steps.{Planning, planning}
use Rattle.node_steps.specs.Spelled.{spelled}
use Rattle.node_steps.proofs.AckLaws.{batch_ack_after, batch_ack_told}
use Rattle.node_core.proofs.HandlerLaws.{in_one, still}
use Rattle.node_steps.proofs.RangeLaws.{ranges_batch_acked}
use Rattle.node_core.proofs.node.Node.on_batch_ack.Goals as goal

pub plan_unless_spent-requires-clause-fits : goal.plan_unless_spent-requires-clause-fits
plan_unless_spent-requires-clause-fits c = record { step = tt; in_one = in_one c.args.self.now.now c.args.key (sym c.in-Some.ensures.some) }

pub plan_unless_spent-requires-clause-ranges : goal.plan_unless_spent-requires-clause-ranges
plan_unless_spent-requires-clause-ranges c = ranges_batch_acked c.args.self.now.now c.args.from c.args.number

pub returns-clause-effects : goal.returns-clause-effects
returns-clause-effects c =
    let f = c.args.self.now.now in
    let out : has_number (out_to f.batches c.args.from) c.args.number ≡ c.is_out-is_out.result = ap (λ (g : Facts). has_number (out_to g.batches c.args.from) c.args.number) (sym c.in-Some.ensures.view.viewed.view) ∙ sym c.is_out-is_out.ensures in
    subst (λ (e : rules.Effects). IfOk c.plan_unless_spent.result (λ x. x ≡ spelled e)) (sym (batch_ack_told f c.args.from c.args.key c.args.number c.is_out-is_out.result (sym c.in-Some.ensures.some) out)) c.plan_unless_spent.ensures.effects

pub returns-clause-planned : goal.returns-clause-planned
returns-clause-planned c =
    subst (λ (g : Facts). OnOk c.plan_unless_spent.result (c.plan_unless_spent.new.self ≡ planning c.args.self.now.now g)) (sym (batch_ack_after c.args.self.now.now c.args.from c.args.key c.args.number (sym c.in-Some.ensures.some))) c.plan_unless_spent.ensures.planned

pub returns-clause-err : goal.returns-clause-err
returns-clause-err c =
    subst (λ (q : Planning). OnErr c.plan_unless_spent.result (c.plan_unless_spent.new.self ≡ q)) (still c.args.self.now c.requires.unplanned) c.plan_unless_spent.ensures.err
