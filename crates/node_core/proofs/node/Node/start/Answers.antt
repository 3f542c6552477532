use Rattle.std.proofs.Common.{◌≡◌, Bool, true, None, ap, sym, ◌∙◌}
use Rattle.node_rules.specs.Facts.{Facts}
use Rattle.node_rules.specs.Notes.{started}
use Rattle.node_rules.specs.Steps.{Planning, after_start}
use Rattle.node_rules.proofs.PartLaws.{start_is}
use Rattle.std.specs.Prelude.{if◌then◌else◌}
use Rattle.node_core.proofs.NodeLaws.{is_unplanned, that_runs, unplanned_view}
use Rattle.node_core.proofs.node.Node.start.Goals as goal

pub invariant_of-self : goal.invariant_of-self
invariant_of-self c = that_runs c.self.inside c.self.invariant.0 (is_unplanned c.self.inside c.args.self.now.now (c.self.view_is ∙ c.give_up.ensures))

pub returns : goal.returns
returns c =
    let none : c.self.inside.planned ≡ None = is_unplanned c.self.inside c.args.self.now.now (c.self.view_is ∙ c.give_up.ensures) in
    let f : Facts = c.args.self.now.now in
    let same : after_start f ≡ started f = start_is f ∙ ap (λ (b : Bool). if b then f else started f) c.requires in
    unplanned_view (record c.self.inside { up = true }) (after_start f) none
    (ap (λ (p : Planning). started p.now) (c.self.view_is ∙ c.give_up.ensures) ∙ sym same)
