use Rattle.std.proofs.Common.{◌≡◌, fold, drop}
use Rattle.cluster_rules.specs.Opening.{declared_policy, header_policy_step}
use Rattle.world.proofs.opening.declared_policy.Given as goal

abbrev pub invariant-loop-line : goal.invariant-loop-line
invariant-loop-line l = fold header_policy_step l.declared (drop l.line-index l.header) ≡ declared_policy l.header
