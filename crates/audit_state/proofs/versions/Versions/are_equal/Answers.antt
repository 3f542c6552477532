use Rattle.std.proofs.Common.{arith}
use Rattle.audit_state.proofs.PlaceLaws.{equal_then, equal_else}
use Rattle.audit_state.proofs.versions.Versions.are_equal.Goals as goal

pub returns-then-at_most : goal.returns-then-at_most
returns-then-at_most c = equal_then _ _ _ c.at_most.result _ c.at_most.ensures c.at_most-then-at_most.ensures (grind (arith, c.if-at_most.true))

pub returns-else-at_most : goal.returns-else-at_most
returns-else-at_most c = equal_else _ _ _ c.at_most.result c.at_most.ensures (grind (arith, c.if-at_most.false))
