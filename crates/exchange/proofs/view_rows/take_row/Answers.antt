use Rattle.exchange.proofs.TakenLaws.{position_removed, position_row, position_there}
use Rattle.exchange.proofs.view_rows.take_row.Goals as goal

pub unreachable-requires : goal.unreachable-requires
unreachable-requires c = position_there c.deref.result.now c.args.rows.now.items c.args.from c.deref.ensures.value c.requires.listed c.in-None.ensures

pub returns-clause-rows : goal.returns-clause-rows
returns-clause-rows c =
    position_removed c.deref.result.now c.args.rows.now.items c.remove-row.new.self.items c.args.from c.in-Some.place c.remove-row.result
    c.deref.ensures.value c.requires.distinct c.in-Some.ensures c.remove-row.ensures.items

pub returns-clause-row : goal.returns-clause-row
returns-clause-row c =
    position_row c.deref.result.now c.args.rows.now.items c.args.from c.in-Some.place c.remove-row.result
    c.deref.ensures.value c.requires.distinct c.in-Some.ensures c.remove-row.ensures.value
