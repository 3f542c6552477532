use Rattle.std.proofs.Common.{Contains, sym, subst}
use Rattle.node_rules.specs.Agreement.{seeing}
use Rattle.node_rules.specs.Hearing.{beat_heard}
use Rattle.node_rules.specs.Steps.{Planning}
use Rattle.node_steps.specs.Fits.{FitsBeat}
use Rattle.node_core.specs.Nodes.{node_facts}
use Rattle.node_steps.specs.Ranges.{HasRanges}
use Rattle.node_core.proofs.HeartbeatLaws.{fits_beat}
use Rattle.node_steps.proofs.RangeLaws.{ranges_agreed}
use Rattle.node_core.proofs.node.Node.on_heartbeat.Goals as goal

pub plan-requires-clause-fits : goal.plan-requires-clause-fits
plan-requires-clause-fits c =
    let now = node_facts c.self.inside in
    let peer : Contains now.peers c.args.from = subst (λ (p : Planning). Contains p.now.peers c.args.from) (sym c.self.view_is) c.requires.peer in
    let agrees = c.self.invariant.0 in
    subst (λ (p : Planning). FitsBeat p.now c.args.from) c.self.view_is
    (fits_beat now c.args.from agrees.peers agrees.heard c.count.ensures.order peer)

pub plan-requires-clause-ranges : goal.plan-requires-clause-ranges
plan-requires-clause-ranges c =
    let now = node_facts c.self.inside in
    let agrees = c.self.invariant.0 in
    let ranges : HasRanges now = agrees.ranges in
    subst (λ (p : Planning). HasRanges (record p.now { hearing = beat_heard p.now.hearing c.args.from c.args.beat; agreement = seeing p.now.agreement c.args.beat.promised })) c.self.view_is
    (ranges_agreed now (beat_heard now.hearing c.args.from c.args.beat) (seeing now.agreement c.args.beat.promised) ranges (record { promised = ranges.promised; proposed = ranges.proposed }))
