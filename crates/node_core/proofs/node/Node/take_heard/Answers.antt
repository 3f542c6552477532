use Rattle.std.proofs.Common.{◌≡◌, None, Contains, ap, subst, sym, ◌∙◌}
use Rattle.node_rules.specs.Steps.{Planning}
use Rattle.heartbeat.specs.Adjacent.{HasRoomFor}
use Rattle.node_steps.specs.declared.planned.Planned.TheVariants as planned
use Rattle.node_core.specs.Nodes.{node_facts}
use Rattle.node_steps.specs.Plans.{taken}
use Rattle.node_steps.specs.Ranges.{HasRanges}
use Rattle.node_core.proofs.CommitLaws.{heard_node, that_heard}
use Rattle.node_core.proofs.NodeLaws.{none_planned, unplanned_view}
use Rattle.node_core.proofs.node.Node.take_heard.Goals as goal

pub heard-requires-clause-room : goal.heard-requires-clause-room
heard-requires-clause-room c = subst (λ (p : Planning). HasRoomFor c.args.from p.now.hearing) (sym c.self.view_is) c.requires.fits.room

pub invariant_of-self : goal.invariant_of-self
invariant_of-self c =
    let none : c.self.inside.planned ≡ None = none_planned _ c.self.inside.planned (ap (λ (p : Planning). p.next) c.self.view_is ∙ c.requires.unplanned) in
    let peer : Contains c.self.inside.peers c.args.from = subst (λ (p : Planning). Contains p.now.peers c.args.from) (sym c.self.view_is) c.requires.fits.peer in
    let ranges : HasRanges (taken (node_facts c.self.inside) (planned.Heard c.args.from c.args.beat.now)) = subst (λ (p : Planning). HasRanges (taken p.now (planned.Heard c.args.from c.args.beat.now))) (sym c.self.view_is) c.requires.ranges in
    rw (c.heard.ensures, c.see.ensures) (that_heard c.self.inside c.args.from c.args.beat.now c.self.invariant.0 none peer ranges)

pub returns : goal.returns
returns c =
    let none : c.self.inside.planned ≡ None = none_planned _ c.self.inside.planned (ap (λ (p : Planning). p.next) c.self.view_is ∙ c.requires.unplanned) in
    rw (c.heard.ensures, c.see.ensures)
    (unplanned_view (heard_node c.self.inside c.args.from c.args.beat.now) (taken c.args.self.now.now (planned.Heard c.args.from c.args.beat.now)) none
    (ap (λ (p : Planning). taken p.now (planned.Heard c.args.from c.args.beat.now)) c.self.view_is))
