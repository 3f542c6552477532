use Rattle.std.proofs.Common.{ap, sym, ◌∙◌}
use Rattle.std.specs.Prelude.{option_map}
use Rattle.world.specs.Stands.{flying_posting}
use Rattle.world.proofs.ActsLaws.{receiver_if}
use Rattle.world.proofs.KeepLaws.{stands_of}
use Rattle.world.proofs.NetLaws.{found}
use Rattle.world.proofs.world.World.flying.Goals as goal

pub returns-clause-value : goal.returns-clause-value
returns-clause-value c = ap (option_map flying_posting) c.get.ensures ∙ sym (found c.self.inside.net _ c.args.message (stands_of c.self.inside _ c.self.view_is c.self.invariant).network)

pub returns-clause-receiver : goal.returns-clause-receiver
returns-clause-receiver c = receiver_if c.self.inside _ c.args.message c.get.result c.self.view_is c.self.invariant c.get.ensures
