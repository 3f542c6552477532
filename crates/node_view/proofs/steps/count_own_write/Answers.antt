use Rattle.std.proofs.Common.{ap, ◌∙◌}
use Rattle.std.specs.FinMap as finite
use Rattle.node_rules.specs.Copies.{Stamps}
use Rattle.node_rules.specs.Stamps.{changed_stamps, recounted, spoiled}
use Rattle.node_view.proofs.SpoilLaws.{changed_again}
use Rattle.node_view.proofs.steps.count_own_write.Goals as goal

pub returns-clause-stamps : goal.returns-clause-stamps
returns-clause-stamps c =
    let p = c.args.p in
    c.recount.ensures.stamps
    ∙ (ap (λ (m : Stamps). changed_stamps m p (recounted c.args.of c.args.writes) (finite.get m p)) c.spoil.ensures.stamps
    ∙ changed_again c.args.store.now.stamps p (spoiled c.args.of) (recounted c.args.of c.args.writes))
