use Rattle.std.proofs.Common.{◌≡◌, ◌++◌, drop}
use Rattle.node_rules.specs.Shows.{with_roles}
use Rattle.world.proofs.showing.with_roles.Given as goal

abbrev pub invariant-loop-id : goal.invariant-loop-id
invariant-loop-id l = l.placed.items ++ with_roles l.members (drop l.id-index l.ids) ≡ with_roles l.members l.ids
