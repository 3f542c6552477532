use Rattle.std.proofs.Common.{ℕ, subst, sym}
use Rattle.std.specs.Prelude.{Contains}
use Rattle.cluster_rules.specs.Opening.{declared_nodes}
use Rattle.world.proofs.world.World.write_members.Goals as goal

pub member-requires : goal.member-requires
member-requires c =
    subst (λ (n : ℕ). Contains (declared_nodes c.args.self.now.header) n) (sym c.index-ids-place.is)
    (c.requires.declared c.loop-place.place c.index-ids-place.result c.loop-place-test.true)
