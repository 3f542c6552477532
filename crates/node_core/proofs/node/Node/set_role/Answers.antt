use Rattle.std.proofs.Common.{◌≡◌, ◌<◌, ◌^◌, None, ap, arith, ◌∙◌}
use Rattle.node_rules.specs.Notes.{with_role}
use Rattle.node_rules.specs.Steps.{Planning}
use Rattle.node_core.proofs.NodeLaws.{is_unplanned, unplanned_view, with_other_role}
use Rattle.node_core.proofs.node.Node.set_role.Goals as goal

pub invariant_of-self : goal.invariant_of-self
invariant_of-self c =
    let none : c.self.inside.planned ≡ None = is_unplanned c.self.inside c.args.self.now.now (c.self.view_is ∙ c.give_up.ensures) in
    let rack : c.args.role.rack < 2 ^ 8 = omega arith in
    rw c.set_role.ensures (with_other_role c.self.inside c.args.role rack c.self.invariant.0 none)

pub returns : goal.returns
returns c =
    let none : c.self.inside.planned ≡ None = is_unplanned c.self.inside c.args.self.now.now (c.self.view_is ∙ c.give_up.ensures) in
    rw c.set_role.ensures
    (unplanned_view (record c.self.inside { role = c.args.role; hearing = record c.self.inside.hearing { role = c.args.role } }) (with_role c.args.self.now.now c.args.role) none
    (ap (λ (p : Planning). with_role p.now c.args.role) (c.self.view_is ∙ c.give_up.ensures)))
