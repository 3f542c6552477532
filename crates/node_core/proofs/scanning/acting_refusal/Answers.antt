use Rattle.std.proofs.Common.{Some, None, sym, ◌∙◌}
use Rattle.node_core.proofs.ScanLaws.{refused_open}
use Rattle.node_core.proofs.scanning.acting_refusal.Goals as goal

pub returns-in_err-first_open : goal.returns-in_err-first_open
returns-in_err-first_open c f h =
    c.from_residual.ensures
    ∙ refused_open f c.args.view.now c.args.p c.txns.result.now.running None h (sym c.if-not-acts.false ∙ c.acts.ensures f h) (sym c.if-not-knows_settled.false ∙ c.knows_settled.ensures) c.txns.ensures.running c.in_err-first_open.ensures

pub returns : goal.returns
returns c f h =
    refused_open f c.args.view.now c.args.p c.txns.result.now.running (Some c.in_ok-first_open.field-0) h (sym c.if-not-acts.false ∙ c.acts.ensures f h) (sym c.if-not-knows_settled.false ∙ c.knows_settled.ensures) c.txns.ensures.running c.in_ok-first_open.ensures
