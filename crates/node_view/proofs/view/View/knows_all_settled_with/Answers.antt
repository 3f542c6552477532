use Rattle.std.proofs.Common.{◌||◌, Bool, List, not, sym, ap, ◌∙◌}
use Rattle.cluster_types.specs.Rows.{bit}
use Rattle.node_view.proofs.SettledLaws.{all_with, known_or_empty}
use Rattle.node_view.proofs.view.View.knows_all_settled_with.Goals as goal

pub returns-then-knows_all_settled : goal.returns-then-knows_all_settled
returns-then-knows_all_settled c f h =
    sym (all_with f c.args.self.now c.args.settled.now h (sym (c.knows_all_settled.ensures f h) ∙ c.if-knows_all_settled.true))

pub returns : goal.returns
returns c f h =
    let v = c.args.self.now in
    let s = c.args.settled.now in
    known_or_empty f v s c.complement.result c.are_all_empty.result h
    (λ q within. c.complement.ensures.each q within ∙ ap not (c.or.ensures.each q) ∙ ap (λ (row : List Bool). not (bit s q || bit row q)) c.settled_row.ensures)
    c.are_all_empty.ensures.all c.are_all_empty.ensures.one
