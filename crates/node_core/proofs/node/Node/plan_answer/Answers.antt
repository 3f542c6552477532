use Rattle.std.proofs.Common.{◌≡◌, Option, OnOk, sym, ap, subst}
use Rattle.conflict_order.specs.declared.version.Version.{Version}
use Rattle.wire_messages.specs.Versions.{IsOptionVersion}
use Rattle.node_rules.specs.Facts.{Facts}
use Rattle.node_rules.specs.Steps.{planning}
use Rattle.node_view.specs.Plans.{with_answer}
use Rattle.node_steps.proofs.StepRanges.{answered_ranges}
use Rattle.node_core.proofs.node.Node.plan_answer.Goals as goal

pub plan_unless_spent-requires-clause-fits : goal.plan_unless_spent-requires-clause-fits
plan_unless_spent-requires-clause-fits c = record { step = tt; in_one = c.requires.in_one }

pub plan_unless_spent-requires-clause-ranges : goal.plan_unless_spent-requires-clause-ranges
plan_unless_spent-requires-clause-ranges c =
    answered_ranges c.args.self.now.now c.args.from c.args.transaction _ (subst IsOptionVersion (sym c.in_ok-copy_of.ensures) c.requires.answer)

pub returns-clause-planned : goal.returns-clause-planned
returns-clause-planned c =
    let f = c.args.self.now.now in
    subst (λ (g : Facts). OnOk c.plan_unless_spent.result (c.plan_unless_spent.new.self ≡ planning f g)) (ap (λ (w : Option Version). with_answer f c.args.from c.args.transaction w) c.in_ok-copy_of.ensures) c.plan_unless_spent.ensures.planned
