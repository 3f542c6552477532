-- What a reading computes with at a journal that is known.
use Rattle.conflict_order.specs.Join.{join}
use Rattle.conflict_order.specs.Next.{next}
use Rattle.conflict_order.specs.Order.{version_cmp}
use Rattle.wire_messages.specs.Numbers.{number_field, number_at, byte_field, byte_at, flag_field, flag_at}
use Rattle.wire_messages.specs.Fields.{field, items_at}
use Rattle.wire_messages.specs.Keys.{key_field, key_where, key_at, key_or_none_at}
use Rattle.wire_messages.specs.Versions.{bytes_at, digest_at, digest_above_at, option_digest_field, option_digest_at, value_field, value_at, body_field, body_at, version_field, version_at, record_field, record_at, records_field, records_at}
use Rattle.wire_messages.specs.Nodes.{id_field, id_below_at, id_at, falling_ids_at, ids_at, plain_members_field, plain_members_at}
use Rattle.wire_messages.specs.Kinds.{propose_at, accept_at, commit_at, batch_at, batch_ack_at, repl_at, repl_ack_at, proxy_at, proxy_reply_at, call_at, reply_message_at, scan_ask_at, scan_page_at}
use Rattle.wire_messages.specs.Requests.{want_field, want_at, reply_field, reply_at}
use Rattle.wire_messages.specs.Spelling.{spelling}
use Rattle.wire_messages.specs.Decoding.{decoded, message_of}
use Rattle.partition_lists.specs.Hashes.{fnv1a, jenkins_state, jenkins_end, node_bytes, partition_bytes, place}
use Rattle.partition_lists.specs.Lists.{list}
use Rattle.journal_readings.specs.Settings.{policy_of, factor_of, nodes, clock_of, is_node_up, groups_of, present_role}
use Rattle.journal_readings.specs.Contents.{content, holds_any, applied}
use Rattle.journal_readings.specs.Views.{promised_key, last_key, view}
use Rattle.journal_readings.specs.Entries.{entry, applied_in, fold_of}
use Rattle.journal_readings.specs.Messages.{posted, sent_between, arrival}
use Rattle.journal_readings.specs.Stamps.{is_empty_at_entry, is_empty_everywhere, stamp}
use Rattle.journal_readings.specs.Counts.{numbers, count}
use Rattle.journal_readings.specs.Rows.{copy_state, row}
use Rattle.journal_readings.specs.Classes.{class_of, hands_on}
use Rattle.journal_readings.specs.Maps.{acting}
use Rattle.journal_readings.specs.Pending.{is_acked, out, is_handed_on, is_record_pending}
use Rattle.journal_readings.specs.Settled.{is_settled, has_open_write}
use Rattle.journal_readings.specs.NamedKeys.{named_keys, named_members}
use Rattle.journal_readings.specs.Shape.{named_nodes}

-- the versions' order, the lists of partitions, the grammar of messages, and the readings
unfoldable pub computing : Unit {0}
unfolding join next version_cmp fnv1a jenkins_state jenkins_end node_bytes partition_bytes place list number_field number_at byte_field byte_at field items_at key_field key_where key_at bytes_at digest_at digest_above_at value_field value_at body_field body_at version_field version_at record_field record_at records_field records_at id_field id_below_at id_at falling_ids_at ids_at plain_members_field plain_members_at propose_at accept_at commit_at batch_at batch_ack_at repl_at repl_ack_at proxy_at proxy_reply_at call_at reply_message_at scan_ask_at scan_page_at want_field want_at reply_field reply_at flag_field flag_at key_or_none_at option_digest_field option_digest_at spelling decoded message_of policy_of factor_of nodes clock_of is_node_up groups_of present_role content holds_any applied promised_key last_key view entry applied_in fold_of posted sent_between arrival is_empty_at_entry is_empty_everywhere stamp numbers count copy_state row class_of hands_on acting is_acked out is_handed_on is_record_pending is_settled has_open_write named_keys named_members named_nodes
computing = tt
