use Rattle.std.proofs.Common.{ℕ, refl, subst, sym}
use Rattle.std.specs.Prelude.{Contains}
use Rattle.cluster_rules.specs.Opening.{declared_nodes}
use Rattle.world.proofs.world.World.place_of.Goals as goal

pub unreachable-requires : goal.unreachable-requires
unreachable-requires c = c.in-None.ensures.none refl (subst (λ (n : ℕ). Contains (declared_nodes c.args.self.now.header) n) (sym c.number.ensures.same) c.requires)
