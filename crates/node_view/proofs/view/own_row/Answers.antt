use Rattle.node_view.proofs.EntryLaws.{row_is_own}
use Rattle.node_view.proofs.view.own_row.Goals as goal

pub returns : goal.returns
returns c = row_is_own c.args.store.now c.in_ok-row.row c.entries.ensures.valid c.in_ok-row.ensures
