use Rattle.std.proofs.Common.{sym, ap, ◌∙◌, option_map}
use Rattle.journal_lines.specs.declared.refusal.Refusal.TheVariants as refusal
use Rattle.node_view.proofs.PlanLaws.{refused_busy}
use Rattle.node_view.proofs.view.View.acting_refusal.Goals as goal

pub returns-in-Some : goal.returns-in-Some
returns-in-Some c f h =
    ap (option_map refusal.Busy) (sym c.in-Some.is)
    ∙ refused_busy f c.self.inside c.args.self.now c.args.digest.now c.partition_of-p.result c.acts.result c.open_on.result c.self.invariant.noted c.self.view_is h c.partition_of-p.ensures (c.acts.ensures f h) c.if-not-acts.false c.open_on.ensures

pub returns-in-None : goal.returns-in-None
returns-in-None c f h =
    ap (option_map refusal.Busy) (sym c.in-None.is)
    ∙ refused_busy f c.self.inside c.args.self.now c.args.digest.now c.partition_of-p.result c.acts.result c.open_on.result c.self.invariant.noted c.self.view_is h c.partition_of-p.ensures (c.acts.ensures f h) c.if-not-acts.false c.open_on.ensures
