-- What is due of a node that a message reaches, also a request of another node or of the client.
use Rattle.std.specs.Prelude.{ℕ, List, Option, Some, None, if◌then◌else◌}
use Rattle.conflict_order.specs.declared.want.Want.{Want}
use Rattle.cluster_types.specs.declared.cluster_key.ClusterKey.{ClusterKey}
use Rattle.cluster_types.specs.Endpoints.{client}
use Rattle.wire_messages.specs.declared.message.Message.{Message}
use Rattle.wire_messages.specs.declared.message.Message.TheVariants as message
use Rattle.node_rules.specs.Effects.{Effects, nothing, sends_only, to_one}
use Rattle.node_rules.specs.Facts.{Facts, view_key}
use Rattle.node_rules.specs.Messages.{due_message_of}
use Rattle.node_rules.specs.Notes.{in_view}
use Rattle.node_rules.specs.Requests.{due_request}
use Rattle.node_rules.specs.StaleMessages.{stale}
use Rattle.request_rules.specs.declared.taken.Asker.{Asker}
use Rattle.request_rules.specs.declared.taken.Outcome.{Outcome}
use Rattle.request_rules.specs.declared.taken.Outcome.TheVariants as outcome
use Rattle.request_rules.specs.declared.taken.Taken.{Taken}
use Rattle.request_rules.specs.Pages.{on_scan_ask}
use Rattle.request_rules.specs.Passing.{on_proxy_reply}
use Rattle.request_rules.specs.Replies.{reply_to}
use Rattle.request_rules.specs.Requests.{NodeRequests}
use Rattle.request_rules.specs.TakenUp.{outcome_for}

-- a request of the asker, by what became of it: one that the node didn't take up is a request as any, one whose
-- transaction is open does nothing, and one that was replied to gets the same reply again
abbrev pub taking_if : Facts → ℕ → Asker → List ℕ → Want → Option Outcome → Effects
taking_if f clock a d w None = due_request f clock d w
taking_if f clock a d w (Some (outcome.Open t)) = nothing
taking_if f clock a d w (Some (outcome.Kept b)) =
    sends_only (to_one a.from (reply_to (view_key f) a b))

-- a request that a message brings from that asker
abbrev pub taking : List Taken → Facts → ℕ → Asker → List ℕ → Want → Effects
taking taken f clock a d w = taking_if f clock a d w (outcome_for taken a)

-- what is due of a Proxy from that node: it is stale in another view than the one in which it was passed on
abbrev pub on_proxy : List Taken → Facts → ℕ → ℕ → ClusterKey → ℕ → List ℕ → Want → Effects
on_proxy taken f clock from key x d w =
    if in_view f key
    then taking taken f clock (record { from = from; number = x }) d w
    else stale f

-- what is due of a Call, which is of no view
abbrev pub on_call : List Taken → Facts → ℕ → ℕ → List ℕ → Want → Effects
on_call taken f clock q d w = taking taken f clock (record { from = client; number = q }) d w

-- what is due of a message from that endpoint with so many partitions, at this time of the node's clock, before the
-- replies that its lines owe
abbrev pub due_at_node_of : ℕ → NodeRequests → Facts → ℕ → ℕ → Message → Effects
due_at_node_of n r f clock from (message.Proxy key x d w) = on_proxy r.taken f clock from key x d w
due_at_node_of n r f clock from (message.ProxyReply key x b) = on_proxy_reply r.passed f from key x b
due_at_node_of n r f clock from (message.Call q d w) = on_call r.taken f clock q d w
due_at_node_of n r f clock from (message.ScanAsk s p after) = on_scan_ask f s p after
due_at_node_of n r f clock from m = due_message_of n f clock from m
