-- What is due of a node that a message reaches: a function for each kind, of the facts before it. The number of
-- partitions is an argument where a node tells of all that it knows them settled.
use Rattle.std.specs.Prelude.{ℕ}
use Rattle.cluster_types.specs.Partitions.{partition_count}
use Rattle.wire_messages.specs.declared.message.Message.{Message}
use Rattle.wire_messages.specs.declared.message.Message.TheVariants as message
use Rattle.node_rules.specs.Effects.{Effects, nothing}
use Rattle.node_rules.specs.Facts.{Facts}
use Rattle.node_rules.specs.Notes.{reached}
pub use Rattle.cluster_types.specs.Endpoints.{client}
pub use Rattle.node_rules.specs.StaleMessages.{stale, spent}
pub use Rattle.node_rules.specs.VoteMessages.{due_propose, commit_effects, accept_effects, due_accept, due_refuse, may_enter_view, due_commit}
pub use Rattle.node_rules.specs.RowMessages.{finishes, due_state}
pub use Rattle.node_rules.specs.BatchMessages.{merge_line, merging, merging_all, due_batch, due_batch_ack}
pub use Rattle.node_rules.specs.ProgressMessages.{due_progress}
pub use Rattle.node_rules.specs.TransactionMessages.{due_repl, ack_of, due_repl_ack, due_ask, answer_of, due_answer}
pub use Rattle.node_rules.specs.ClientMessages.{map_table, due_map_ask}

-- what is due of a message from that endpoint with so many partitions, at this time of the node's clock. A kind that
-- has no rule at a node is stale
abbrev pub due_message_of : ℕ → Facts → ℕ → ℕ → Message → Effects
due_message_of n f clock from (message.Heartbeat view promised hears role) = nothing
due_message_of n f clock from (message.Propose key ms) = due_propose f from key
due_message_of n f clock from (message.Accept key) = due_accept f from key
due_message_of n f clock from (message.Refuse key promised) = due_refuse f key
due_message_of n f clock from (message.Commit key ms) = due_commit f key ms
due_message_of n f clock from (message.State key wants row) =
    due_state f (reached f from (message.State key wants row)) from key wants
due_message_of n f clock from (message.Batch b) = due_batch f from b
due_message_of n f clock from (message.BatchAck key number) = due_batch_ack f from key number
due_message_of n f clock from (message.Progress key wants done handed settled) =
    due_progress n f (reached f from (message.Progress key wants done handed settled)) from key
    wants
due_message_of n f clock from (message.Repl key t nth digest v) = due_repl f from key t digest v
due_message_of n f clock from (message.ReplAck key t) = due_repl_ack f from key t
due_message_of n f clock from (message.Ask key t digest) = due_ask f from key t digest
due_message_of n f clock from (message.Answer key t v) = due_answer f clock from key t v
due_message_of n f clock from message.MapAsk = due_map_ask f
due_message_of n f clock from _ = stale f

-- what is due of a message
abbrev pub due_message : Facts → ℕ → ℕ → Message → Effects
due_message f clock from m = due_message_of partition_count f clock from m
