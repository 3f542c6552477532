use Rattle.std.proofs.Common.{◌∙◌}
use Rattle.node_view.proofs.StageLaws.{seen_empty}
use Rattle.node_view.proofs.view.View.is_all_empty.Goals as goal

pub returns-in-Some : goal.returns-in-Some
returns-in-Some c = c.is_all_empty.ensures ∙ seen_empty c.in-Some.moving.now.map.exchange c.args.self.now.exchange c.args.p c.in-Some.ensures.moving.exchange c.in-Some.ensures.some
