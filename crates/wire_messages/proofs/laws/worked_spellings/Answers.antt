use Rattle.std.proofs.Common.{refl}
use Rattle.wire_messages.specs.Numbers.{number_field, byte_field}
use Rattle.wire_messages.specs.Keys.{key_field}
use Rattle.wire_messages.specs.Nodes.{ids_field}
use Rattle.wire_messages.specs.Rows.{state_field, entry_field}
use Rattle.wire_messages.specs.Spelling.{spelling}
use Rattle.wire_messages.proofs.laws.worked_spellings.Goals as goal

pub returns-clause-heartbeat : goal.returns-clause-heartbeat
unfolding spelling key_field ids_field byte_field
returns-clause-heartbeat c = refl

pub returns-clause-accept : goal.returns-clause-accept
unfolding spelling key_field byte_field
returns-clause-accept c = refl

pub returns-clause-refuse : goal.returns-clause-refuse
unfolding spelling key_field byte_field
returns-clause-refuse c = refl

pub returns-clause-batch_ack : goal.returns-clause-batch_ack
unfolding spelling key_field number_field byte_field
returns-clause-batch_ack c = refl

pub returns-clause-map_ask : goal.returns-clause-map_ask
unfolding spelling byte_field
returns-clause-map_ask c = refl

pub returns-clause-entry : goal.returns-clause-entry
unfolding entry_field state_field key_field number_field
returns-clause-entry c = refl
