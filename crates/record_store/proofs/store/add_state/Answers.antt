use Rattle.record_store.proofs.RowLaws.{state_same, added}
use Rattle.record_store.proofs.store.add_state.Goals as goal

pub returns-in-Empty-clause-states : goal.returns-in-Empty-clause-states
returns-in-Empty-clause-states c q = state_same c.args.row.now c.args.p q c.args.state c.requires c.in-Empty.is

pub returns-in_default : goal.returns-in_default
returns-in_default c = let made = added c.add.result c.args.row.now c.add.new.self c.args.p c.args.state c.requires c.add.ensures.ok c.add.ensures.err in record { below = made.below; states = made.states }
