use Rattle.std.proofs.Common.{rules, arith}
use Rattle.std.proofs.lemmas.Grind.{common_steps}
use Rattle.client_map.proofs.client_map.refresh_each.Goals as goal

pub loop-number-init : goal.loop-number-init
loop-number-init c = search rules

pub loop-number-preserved : goal.loop-number-preserved
loop-number-preserved c = grind (arith, common_steps)
