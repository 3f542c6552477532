use Rattle.std.proofs.Common.{◌≡◌, true, false, arith, sym, ◌∙◌}
use Rattle.audit_state.proofs.PlaceLaws.{join_first, join_second}
use Rattle.audit_state.proofs.versions.Versions.join.Goals as goal

pub returns-then-at_most : goal.returns-then-at_most
returns-then-at_most c = let passed : c.at_most.result ≡ true = grind (arith, c.if-at_most.true) in join_first _ _ _ (sym c.at_most.ensures ∙ passed)

pub returns-else-at_most : goal.returns-else-at_most
returns-else-at_most c = let failed : c.at_most.result ≡ false = grind (arith, c.if-at_most.false) in join_second _ _ _ (sym c.at_most.ensures ∙ failed)
