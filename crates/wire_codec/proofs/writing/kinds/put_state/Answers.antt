use Rattle.wire_messages.proofs.StateForms.{row_limit}
use Rattle.wire_codec.proofs.writing.kinds.put_state.Goals as goal

pub put_state_row-requires-clause-limit : goal.put_state_row-requires-clause-limit
put_state_row-requires-clause-limit c = row_limit c.args.row.now c.requires.1
