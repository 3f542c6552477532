use Rattle.std.proofs.Common.{List, ℕ, ap, filter, sym, ◌∙◌}
use Rattle.std.specs.Prelude.{nat_lt}
use Rattle.partition_lists.specs.Lists.{in_order}
use Rattle.cluster_rules.specs.Opening.{declared_nodes}
use Rattle.cluster_rules.specs.World.{is_up}
use Rattle.world.specs.Steps.{standing}
use Rattle.world.proofs.KeepLaws.{fits_of, ids_of_world}
use Rattle.world.proofs.KnownLaws.{same_nodes}
use Rattle.world.proofs.OrderLaws.{filter_rising}
use Rattle.world.proofs.world.World.up_nodes.Goals as goal

pub returns : goal.returns
returns c =
    let now = c.args.self.now in
    let up = is_up (standing now) in
    c.up_among.ensures
    ∙ ap (filter up) (ids_of_world c.self.inside now c.self.view_is c.self.invariant)
    ∙ filter_rising up (declared_nodes now.header) (fits_of c.self.inside now c.self.view_is c.self.invariant).taken.declared.distinct
    ∙ ap (λ (ns : List ℕ). in_order nat_lt (filter up ns)) (sym (same_nodes now))
