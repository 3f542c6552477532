use Rattle.std.proofs.Common.{◌≡◌, Bool, if◌then◌else◌, sym, ap, subst, ◌∙◌}
use Rattle.node_rules.specs.Notes.{stopped}
use Rattle.node_rules.specs.Steps.{Planning, after_stop, planning}
use Rattle.node_rules.proofs.PartLaws.{stop_is}
use Rattle.node_steps.specs.Ranges.{HasRanges}
use Rattle.node_steps.proofs.RangeLaws.{stopped_ranges}
use Rattle.node_core.proofs.node.Node.stop.Goals as goal

pub plan-requires-clause-ranges : goal.plan-requires-clause-ranges
plan-requires-clause-ranges c = subst (λ (p : Planning). HasRanges (stopped p.now)) c.self.view_is (stopped_ranges _ c.self.invariant.0.ranges)

pub returns-clause-planned : goal.returns-clause-planned
returns-clause-planned c =
    let f = c.args.self.now.now in
    let same : after_stop f ≡ stopped f = stop_is f ∙ ap (λ (b : Bool). if b then stopped f else f) c.requires.up in
    c.plan.ensures.planned ∙ ap (λ (p : Planning). planning p.now (stopped p.now)) c.give_up.ensures ∙ ap (planning f) (sym same)
