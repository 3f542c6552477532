use Rattle.std.proofs.Common.{arith, ◌<◌, subst, sym, ap, length}
use Rattle.cluster_types.specs.Distinct.{AreDistinct}
use Rattle.cluster_types.specs.Filled.{length-taken}
use Rattle.cluster_types.proofs.DistinctLaws.{distinct_push}
use Rattle.cluster_types.proofs.FilledLaws.{IsFilled_push, take_push}
use Rattle.cluster_types.proofs.node_list.NodeList.push.Goals as goal

pub invariant_of-self : goal.invariant_of-self
invariant_of-self c =
    let room : c.self.inside.len < 16 = omega (arith, length-taken c.self.inside.ids c.self.inside.len 1 c.self.invariant.0, c.requires.room, ap length c.self.view_is) in (
      IsFilled_push c.self.inside.ids c.self.inside.len 1 c.args.id room c.self.invariant.0,
      subst AreDistinct (sym (take_push c.self.inside.ids c.self.inside.len 1 c.args.id room c.self.invariant.0)) (distinct_push _ _ c.self.invariant.1 (rw c.self.view_is c.requires.new)),
    )
