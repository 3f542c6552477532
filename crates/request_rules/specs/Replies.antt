-- Replies to requests that came as messages.
use Rattle.std.specs.Prelude.{ℕ, ◌==◌, Bool, true, false, Option, Some, None, if◌then◌else◌}
use Rattle.conflict_order.specs.declared.version.Version.{Version}
use Rattle.conflict_order.specs.declared.want.Want.{Want}
use Rattle.cluster_types.specs.declared.cluster_key.ClusterKey.{ClusterKey}
use Rattle.cluster_types.specs.Endpoints.{client}
use Rattle.journal_lines.specs.declared.refusal.Refusal.{Refusal}
use Rattle.journal_lines.specs.declared.refusal.Refusal.TheVariants as refusal
use Rattle.wire_messages.specs.declared.message.Message.{Message}
use Rattle.wire_messages.specs.declared.message.Message.TheVariants as message
use Rattle.wire_messages.specs.declared.reply.ReplyBody.{ReplyBody}
use Rattle.wire_messages.specs.declared.reply.ReplyBody.TheVariants as reply
use Rattle.request_rules.specs.declared.taken.Asker.{Asker}

-- the reply that tells a refusal; none of a stopped node, which no message reaches
abbrev pub refusal_body : Refusal → Option ReplyBody
refusal_body refusal.Down = None
refusal_body refusal.NoView = Some reply.NoView
refusal_body (refusal.Exchanging m) = Some (reply.Exchanging m)
refusal_body (refusal.NotMaster a) = Some (reply.NotMaster a)
refusal_body (refusal.Busy t) = Some (reply.Busy t)

-- the refusal that a reply tells; none of a reply with what became of the request
abbrev pub body_cause : ReplyBody → Option Refusal
body_cause reply.Nothing = None
body_cause (reply.Found v) = None
body_cause reply.Done = None
body_cause (reply.Exchanging m) = Some (refusal.Exchanging m)
body_cause (reply.NotMaster a) = Some (refusal.NotMaster a)
body_cause (reply.Busy t) = Some (refusal.Busy t)
body_cause reply.NoView = Some refusal.NoView

-- whether the reply is a refusal
abbrev pub is_refusal : ReplyBody → Bool
is_refusal reply.Nothing = false
is_refusal (reply.Found v) = false
is_refusal reply.Done = false
is_refusal (reply.Exchanging m) = true
is_refusal (reply.NotMaster a) = true
is_refusal (reply.Busy t) = true
is_refusal reply.NoView = true

-- the reply that tells what a read found
abbrev pub found_body : Option Version → ReplyBody
found_body None = reply.Nothing
found_body (Some v) = reply.Found v

-- the message that brings the asker the reply of a node in the view of that key: a Reply to the client, whose key is
-- none where the node has no view, and a ProxyReply to a node
abbrev pub reply_to : ClusterKey → Asker → ReplyBody → Message
reply_to key a b =
    if a.from == client
    then message.Reply key a.number b
    else message.ProxyReply key a.number b

-- whether the message is such a reply
abbrev pub is_reply : Message → Bool
is_reply (message.Reply key number b) = true
is_reply (message.ProxyReply key number b) = true
is_reply _ = false

-- who asks by a message that came from that endpoint, if it is a request. A Call is always the client's
abbrev pub asker_of : ℕ → Message → Option Asker
asker_of from (message.Proxy key number d w) = Some (record { from = from; number = number })
asker_of from (message.Call number d w) = Some (record { from = client; number = number })
asker_of from _ = None

-- what is wanted by a message, if it is a request
abbrev pub want_in_message : Message → Option Want
want_in_message (message.Proxy key number d w) = Some w
want_in_message (message.Call number d w) = Some w
want_in_message _ = None
