use Rattle.std.proofs.Common.{◌≡◌, fold, drop}
use Rattle.cluster_rules.specs.Opening.{declared_factor, header_factor_step}
use Rattle.world.proofs.opening.declared_factor.Given as goal

abbrev pub invariant-loop-line : goal.invariant-loop-line
invariant-loop-line l = fold header_factor_step l.declared (drop l.line-index l.header) ≡ declared_factor l.header
