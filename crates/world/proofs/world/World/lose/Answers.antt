use Rattle.std.proofs.Common.{◌∙◌}
use Rattle.world.proofs.EventLaws.{lose_due, lose_lands, lose_proper}
use Rattle.world.proofs.world.World.lose.Goals as goal

pub pass_over-requires-clause-proper : goal.pass_over-requires-clause-proper
pass_over-requires-clause-proper c = lose_proper c.args.event.value c.args.message c.requires.is

pub pass_over-requires-clause-due : goal.pass_over-requires-clause-due
pass_over-requires-clause-due c = c.in_ok-lines.ensures ∙ lose_due _ c.args.event.value c.args.message c.loss_line.result c.requires.is c.loss_line.ensures

pub pass_over-requires-clause-lands : goal.pass_over-requires-clause-lands
pass_over-requires-clause-lands c = lose_lands _ c.args.event.value c.args.message c.requires.is
