use Rattle.std.proofs.Common.{Some, sym, ap, ◌∙◌}
use Rattle.node_view.proofs.TableLaws.{at_gap, at_place}
use Rattle.node_view.proofs.writes.entry.Goals as goal

pub returns-in-Ok : goal.returns-in-Ok
returns-in-Ok g c =
    ap (λ e. Some e.1) (sym c.index-entries-place.is)
    ∙ sym (at_place c.args.p c.args.entries.now c.in-Ok.place c.index-entries-place.result c.requires c.in-Ok.ensures c.index-entries-place.is)

pub returns-in-Err : goal.returns-in-Err
returns-in-Err g c = sym (at_gap c.args.p c.args.entries.now _ c.in-Err.ensures)
