use Rattle.std.proofs.Common.{◌≡◌, ◌+◌, Bool, List, get_or, slice_index, slice_set, sym, ap, subst, ◌∙◌}
use Rattle.std.proofs.lemmas.List.{get_or_default}
use Rattle.cluster_types.specs.Rows.{bit}
use Rattle.cluster_types.specs.RowBytes.{bit_number}
use Rattle.progress.specs.declared.told.Told.{Told}
use Rattle.progress.specs.Told.{AreTold, told_nodes, told_table}
use Rattle.progress.proofs.ToldLaws.{nodes_telling, table_heard, told_telling}
use Rattle.progress.proofs.told.hear_at.Goals as goal

pub returns-clause-nodes : goal.returns-clause-nodes
returns-clause-nodes c =
    ap (λ (t : Told). told_nodes (slice_set c.args.heard.now c.args.place t)) c.hear.ensures ∙ nodes_telling c.args.heard.now c.args.place c.index-heard-place-2.result c.args.done.now

pub returns-clause-told : goal.returns-clause-told
returns-clause-told c =
    let heard = c.args.heard.now in
    let place = c.args.place in
    let d = c.index-heard-place-2.result in
    let row : c.as_row.result.now ≡ (get_or heard place d).done =
    c.as_row.ensures.same ∙ ap (λ (t : Told). t.done) (get_or_default heard place c.index-heard-place.result d c.requires.place) in
    subst (λ (t : Told). AreTold (slice_set heard place t) c.recount.new.known) (sym c.hear.ensures)
    (told_telling heard c.args.known.now c.recount.new.known place d c.args.done.now c.requires.told c.requires.place c.recount.ensures.size
    (λ p within. ap (λ (r : List Bool). slice_index c.recount.new.known p + bit_number (bit r p)) (sym row) ∙ c.recount.ensures.counts p within))

pub returns-clause-table : goal.returns-clause-table
returns-clause-table c =
    ap (λ (t : Told). told_table (slice_set c.args.heard.now c.args.place t)) c.hear.ensures
    ∙ table_heard c.args.heard.now c.args.known.now c.args.place c.index-heard-place-2.result c.args.done.now c.requires.told c.requires.place
