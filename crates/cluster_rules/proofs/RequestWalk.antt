-- A read that is passed on and answered between two nodes, as the prover computes it.
use Rattle.std.proofs.Common.{◌≡◌, [], ◌∷◌, Some, refl}
use Rattle.conflict_order.specs.declared.want.Action.TheVariants as action
use Rattle.conflict_order.specs.Join.{join}
use Rattle.conflict_order.specs.Order.{version_cmp}
use Rattle.cluster_types.specs.Partitions.{partition_count}
use Rattle.wire_messages.specs.declared.reply.ReplyBody.TheVariants as reply
use Rattle.wire_messages.specs.Kinds.{proxy_at, proxy_reply_at, answer_at}
use Rattle.wire_messages.specs.Requests.{want_field, want_at, reply_field, reply_at}
use Rattle.wire_messages.specs.Versions.{digest_at, bytes_at, value_field, value_at, body_field, body_at, version_field, version_at, option_version_field, option_version_at}
use Rattle.journal_lines.specs.declared.line.Line.TheVariants as line
use Rattle.node_rules.specs.Bits.{clear_row}
use Rattle.node_rules.specs.Examples.{key}
use Rattle.partition_lists.specs.Hashes.{fnv1a, jenkins_state, jenkins_end, node_bytes, partition_bytes, place}
use Rattle.partition_lists.specs.Lists.{list}
use Rattle.request_rules.specs.Examples.{last_digest, proxy_of_read, version_of}
use Rattle.cluster_rules.specs.declared.event.Event.TheVariants as event
use Rattle.cluster_rules.specs.RequestEvents.{due_with_requests}
use Rattle.cluster_rules.specs.RequestExamples.{asking_one, before_ending, before_reading, before_reply, before_taking_up, reply_to_one, sent_line}
use Rattle.cluster_rules.proofs.WorldComputing.{world_computing}

-- ---- a read between two nodes

-- the grammar of the messages of a request, and the lists of partitions
unfoldable reading : Unit {0}
unfolding world_computing proxy_at proxy_reply_at answer_at want_field want_at reply_field reply_at digest_at bytes_at value_field value_at body_field body_at version_field version_at option_version_field option_version_at fnv1a jenkins_state jenkins_end node_bytes partition_bytes place list clear_row
reading = tt

pub passed : due_with_requests partition_count before_reading (event.ProxyGet 1 last_digest) ≡ line.Proxy 1 (key 2 2) 1 last_digest action.Get 2 ∷ sent_line 26 1 2 proxy_of_read ∷ []
unfolding reading
passed = refl

pub taken_up : due_with_requests partition_count before_taking_up (event.Deliver 26) ≡ line.Deliver 26 1 2 ∷ line.Opened 2 (key 2 2) 1 last_digest action.Get ∷ sent_line 27 2 1 asking_one ∷ []
unfolding reading
taken_up = refl

pub ended : due_with_requests partition_count before_ending (event.Deliver 28) ≡ line.Deliver 28 1 2 ∷ line.Value 2 (key 2 2) 1 last_digest (Some (version_of 1 98)) ∷ sent_line 29 2 1 reply_to_one ∷ []
unfolding reading join version_cmp
ended = refl

pub proxied : due_with_requests partition_count before_reply (event.Deliver 29) ≡ line.Deliver 29 2 1 ∷ line.Proxied 1 (key 2 2) 1 (reply.Found (version_of 1 98)) ∷ []
unfolding reading
proxied = refl
