-- What worlds compute with at events that are known.
use Rattle.wire_messages.specs.Numbers.{number_field, number_at, byte_field, byte_at}
use Rattle.wire_messages.specs.Fields.{field, items_at}
use Rattle.wire_messages.specs.Keys.{key_field, key_where, key_at, key_or_none_at}
use Rattle.wire_messages.specs.Nodes.{id_field, id_below_at, id_at, falling_ids_at, ids_field, ids_at, plain_members_field, plain_members_at}
use Rattle.wire_messages.specs.Kinds.{heartbeat_at, propose_at, accept_at, commit_at, map_ask_at}
use Rattle.wire_messages.specs.Spelling.{spelling}
use Rattle.wire_messages.specs.Decoding.{decoded, message_of}
use Rattle.cluster_rules.specs.Steps.{rounds}

-- the grammar of the messages by which nodes agree, and rounds
unfoldable pub world_computing : Unit {0}
unfolding number_field number_at byte_field byte_at field items_at key_field key_where key_at key_or_none_at id_field id_below_at id_at falling_ids_at ids_field ids_at plain_members_field plain_members_at heartbeat_at propose_at accept_at commit_at map_ask_at spelling decoded message_of rounds
world_computing = tt
