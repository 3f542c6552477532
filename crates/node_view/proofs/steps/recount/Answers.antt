use Rattle.node_view.proofs.SpoilLaws.{kept_stamps, recounted_other}
use Rattle.node_rules.specs.Stamps.{recounted}
use Rattle.node_view.proofs.steps.recount.Goals as goal

pub returns-else-eq-clause-stamps : goal.returns-else-eq-clause-stamps
returns-else-eq-clause-stamps c =
    kept_stamps c.args.store.now.stamps c.args.p (c.in-Some.stamp.key, c.in-Some.stamp.writes) (recounted c.args.of c.args.writes) c.in-Some.ensures
    (recounted_other c.args.of c.args.writes (c.in-Some.stamp.key, c.in-Some.stamp.writes) c.if-eq.ensures)
