use Rattle.std.proofs.Common.{◌≡◌, ℕ, IfOk, OnErr, OnOk, sym, ap, subst}
use Rattle.wire_messages.specs.declared.message.Message.{Message}
use Rattle.node_rules.specs.Facts.{Facts}
use Rattle.node_rules.specs.Messages.{due_map_ask, due_message}
use Rattle.node_rules.specs.Steps.{Planning, after_message, planning, unplanned}
use Rattle.node_steps.specs.Ranges.{HasRanges}
use Rattle.node_steps.specs.Spelled.{spelled}
use Rattle.node_core.proofs.ReceiveLaws.{from_node}
use Rattle.node_core.proofs.node.Node.receive.Goals as goal

pub returns-in-MapAsk-default-clause-effects : goal.returns-in-MapAsk-default-clause-effects
returns-in-MapAsk-default-clause-effects c =
    let f : Facts = c.args.self.now.now in
    let same : c.give_up.new.self.now ≡ f = ap (λ (p : Planning). p.now) c.give_up.ensures in
    subst (λ (m : Message). IfOk c.on_map_ask.result (λ e. e ≡ spelled (due_message f c.args.clock c.args.from m))) (sym c.in-MapAsk-default.is-0)
    (subst (λ (g : Facts). IfOk c.on_map_ask.result (λ e. e ≡ spelled (due_map_ask g))) same c.on_map_ask.ensures.effects)

pub returns-in_default-Some : goal.returns-in_default-Some
returns-in_default-Some c =
    let f : Facts = c.args.self.now.now in
    let same : c.give_up.new.self.now ≡ f = ap (λ (p : Planning). p.now) c.give_up.ensures in
    let sender : c.in_default-Some.from ≡ c.args.from = c.in_default-Some.ensures.1 in
    record {
      effects = subst (λ (x : ℕ). IfOk c.from_node.result (λ e. e ≡ spelled (due_message f c.args.clock x c.args.m.now))) sender
          (subst (λ (g : Facts). IfOk c.from_node.result (λ e. e ≡ spelled (due_message g c.args.clock c.in_default-Some.from c.args.m.now))) same c.from_node.ensures.effects);
      planned = subst (λ (x : ℕ). OnOk c.from_node.result (c.from_node.new.self ≡ planning f (after_message f c.args.clock x c.args.m.now))) sender
          (subst (λ (g : Facts). OnOk c.from_node.result (c.from_node.new.self ≡ planning g (after_message g c.args.clock c.in_default-Some.from c.args.m.now))) same c.from_node.ensures.planned);
      err = subst (λ (g : Facts). OnErr c.from_node.result (c.from_node.new.self ≡ unplanned g)) same c.from_node.ensures.err;
    }

pub returns-in_default-None : goal.returns-in_default-None
returns-in_default-None c =
    let f : Facts = c.args.self.now.now in
    let ranges : HasRanges f = subst (λ (p : Planning). HasRanges p.now) c.self.view_is c.self.invariant.0.ranges in
    absurd (c.in_default-None.ensures (from_node f c.args.from c.args.m.now c.requires.sender c.in_default-None.not-MapAsk-0 ranges).positive)
