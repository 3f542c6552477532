use Rattle.exchange.proofs.PlaceLaws.{read_next_other, read_next_past, read_next_there, read_state_other, read_state_past, read_state_there}
use Rattle.exchange.proofs.cursors.read_state.Goals as goal

pub returns-in-None-clause-state : goal.returns-in-None-clause-state
returns-in-None-clause-state c = read_state_past c.args.entries.now c.args.p c.args.place c.requires.row c.requires.place c.in-None.ensures.lookup.0

pub returns-in-None-clause-next : goal.returns-in-None-clause-next
returns-in-None-clause-next c = read_next_past c.args.entries.now c.args.p c.args.place c.requires.row c.requires.place c.in-None.ensures.lookup.0

pub returns-in-Some-clause-state : goal.returns-in-Some-clause-state
returns-in-Some-clause-state c =
    read_state_there c.args.entries.now c.args.p c.args.place c.in-Some.entry.now c.requires.row c.requires.place c.in-Some.ensures.lookup.0 c.in-Some.ensures.lookup.1 c.if-eq.ensures

pub returns-in-Some-clause-next : goal.returns-in-Some-clause-next
returns-in-Some-clause-next c =
    read_next_there c.args.entries.now c.args.p c.args.place c.in-Some.entry.now c.requires.row c.requires.place c.in-Some.ensures.lookup.0 c.in-Some.ensures.lookup.1 c.if-eq.ensures

pub returns-in-Some-2-clause-state : goal.returns-in-Some-2-clause-state
returns-in-Some-2-clause-state c =
    read_state_other c.args.entries.now c.args.p c.args.place c.in-Some.entry.now c.requires.row c.requires.place c.in-Some.ensures.lookup.0 c.in-Some.ensures.lookup.1 c.if-eq.ensures

pub returns-in-Some-2-clause-next : goal.returns-in-Some-2-clause-next
returns-in-Some-2-clause-next c =
    read_next_other c.args.entries.now c.args.p c.args.place c.in-Some.entry.now c.requires.row c.requires.place c.in-Some.ensures.lookup.0 c.in-Some.ensures.lookup.1 c.if-eq.ensures
