use Rattle.std.proofs.Common.{List, Option, ℕ, subst, sym}
use Rattle.world.specs.Stands.{AreDivided}
use Rattle.world.specs.Steps.{standing}
use Rattle.world.proofs.KeepLaws.{stands_of}
use Rattle.world.proofs.world.World.groups.Goals as goal

pub returns : goal.returns
returns c =
    let network = (stands_of c.self.inside c.args.self.now c.self.view_is c.self.invariant).network in
    subst (λ (o : Option (List (List ℕ))). AreDivided o (standing c.args.self.now).network.groups) (sym c.groups.ensures) network.groups
