use Rattle.std.proofs.Common.{◌≡◌, true, false, subst, sym, ◌∙◌}
use Rattle.cluster_types.specs.Groups.{AreGroups}
use Rattle.world.proofs.OpeningLaws.{one_group}
use Rattle.world.proofs.opening.undivided_net.Goals as goal

pub from_lists-requires : goal.from_lists-requires
from_lists-requires c =
    subst AreGroups (sym c.as_slice.ensures)
    (one_group c.args.all.now c.requires (λ none. let wrong : false ≡ true = sym c.if-not-is_empty.true ∙ c.is_empty.ensures.1 none in cc))
