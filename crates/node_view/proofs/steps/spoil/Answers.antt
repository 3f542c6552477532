use Rattle.node_view.proofs.SpoilLaws.{kept_stamps, spoiled_own}
use Rattle.node_rules.specs.Stamps.{spoiled}
use Rattle.node_view.proofs.steps.spoil.Goals as goal
use Rattle.std.proofs.Common.{rules}

pub returns-else-ne-clause-stamps : goal.returns-else-ne-clause-stamps
returns-else-ne-clause-stamps c =
    kept_stamps c.args.store.now.stamps c.args.p (c.in-Some.stamp.key, c.in-Some.stamp.writes) (spoiled c.args.of) c.in-Some.ensures
    (spoiled_own c.args.of (c.in-Some.stamp.key, c.in-Some.stamp.writes) c.if-ne.ensures)

pub returns-then-ne-clause-stamps : goal.returns-then-ne-clause-stamps
returns-then-ne-clause-stamps c = search rules
