-- Short journals of a request that a node passes on.
use Rattle.std.specs.Prelude.{List, [], ◌∷◌, ◌++◌, Some}
use Rattle.conflict_order.specs.declared.want.Action.TheVariants as action
use Rattle.conflict_order.specs.declared.want.Want.TheVariants as want
use Rattle.cluster_types.specs.declared.cluster_key.ClusterKey.{ClusterKey}
use Rattle.wire_messages.specs.declared.message.Message.{Message}
use Rattle.wire_messages.specs.declared.message.Message.TheVariants as message
use Rattle.wire_messages.specs.declared.reply.ReplyBody.{ReplyBody}
use Rattle.wire_messages.specs.declared.reply.ReplyBody.TheVariants as reply
use Rattle.wire_messages.specs.Spelling.{spelling}
use Rattle.journal_lines.specs.declared.refusal.Refusal.TheVariants as refusal
use Rattle.journal_lines.specs.declared.line.Line.{Line}
use Rattle.journal_lines.specs.declared.line.Line.TheVariants as line
use Rattle.journal_readings.specs.Examples.{digest, key, version, applied_once, replicated}

-- the view in which node 2 acts, and node 1 passes its requests on
abbrev pub shared : ClusterKey
shared = key 1 2

-- the record's value is read as request 1
abbrev pub read_on : Message
read_on = message.Proxy shared 1 digest want.Get

abbrev pub reply_on : ReplyBody → Message
reply_on b = message.ProxyReply shared 1 b

-- what was written
abbrev pub written_value : ReplyBody
written_value = reply.Found (version 0 1 97)

-- ---- one that is answered, though the first reply is lost

-- node 1 passes a read on to node 2
abbrev pub passed_on : List Line
passed_on =
    replicated ++ line.Proxy 1 shared 1 digest action.Get 2 ∷ line.Sent 3 1 2 (spelling read_on) ∷ []

-- node 2 reads the record, and replies
abbrev pub read_there : List Line
read_there =
    passed_on ++ line.Deliver 3 1 2 ∷ line.Opened 2 shared 2 digest action.Get
    ∷ line.Value 2 shared 2 digest (Some (version 0 1 97))
    ∷ line.Sent 4 2 1 (spelling (reply_on written_value)) ∷ []

-- the reply is lost; the request is sent again, and the reply, which node 2 kept, comes
abbrev pub passed_again : List Line
passed_again =
    read_there ++ line.Lost 4 ∷ line.Sent 5 1 2 (spelling read_on) ∷ line.Deliver 5 1 2
    ∷ line.Sent 6 2 1 (spelling (reply_on written_value)) ∷ line.Deliver 6 2 1
    ∷ line.Proxied 1 shared 1 written_value ∷ []

-- ---- one that is refused

-- the write of the record is open, so node 2 is busy
abbrev pub refused_on : List Line
refused_on =
    applied_once ++ line.Proxy 1 shared 1 digest action.Get 2 ∷ line.Sent 2 1 2 (spelling read_on)
    ∷ line.Deliver 2 1 2 ∷ line.Refused 2 digest (refusal.Busy 1)
    ∷ line.Sent 3 2 1 (spelling (reply_on (reply.Busy 1))) ∷ line.Deliver 3 2 1
    ∷ line.Proxied 1 shared 1 (reply.Busy 1) ∷ []

-- ---- what goes wrong

-- another request is sent than the one that the line names
abbrev pub mistaken : List Line
mistaken =
    replicated ++ line.Proxy 1 shared 1 digest action.Get 2
    ∷ line.Sent 3 1 2 (spelling (message.Proxy shared 1 digest want.Del)) ∷ []

-- a second request has the number of the first
abbrev pub renumbered : List Line
renumbered = passed_on ++ passed_on

-- the request comes again, and is opened again
abbrev pub opened_again : List Line
opened_again =
    read_there ++ line.Sent 5 1 2 (spelling read_on) ∷ line.Deliver 5 1 2
    ∷ line.Opened 2 shared 3 digest action.Get ∷ []

-- the reply is another than the end of the transaction
abbrev pub misquoted : List Line
misquoted =
    passed_on ++ line.Deliver 3 1 2 ∷ line.Opened 2 shared 2 digest action.Get
    ∷ line.Value 2 shared 2 digest (Some (version 0 1 97))
    ∷ line.Sent 4 2 1 (spelling (reply_on (reply.Found (version 0 1 98)))) ∷ line.Deliver 4 2 1
    ∷ line.Proxied 1 shared 1 (reply.Found (version 0 1 98)) ∷ []

-- the refusal is another than the cause for which the request was refused
abbrev pub misrefused : List Line
misrefused =
    applied_once ++ line.Proxy 1 shared 1 digest action.Get 2 ∷ line.Sent 2 1 2 (spelling read_on)
    ∷ line.Deliver 2 1 2 ∷ line.Refused 2 digest (refusal.Busy 1)
    ∷ line.Sent 3 2 1 (spelling (reply_on (reply.Busy 2))) ∷ line.Deliver 3 2 1
    ∷ line.Proxied 1 shared 1 (reply.Busy 2) ∷ []

-- a reply is taken of a request that nobody passed on
abbrev pub unasked : List Line
unasked =
    replicated ++ line.Sent 3 2 1 (spelling (reply_on reply.Done)) ∷ line.Deliver 3 2 1
    ∷ line.Proxied 1 shared 1 reply.Done ∷ []

-- a reply is taken twice
abbrev pub taken_twice : List Line
taken_twice =
    passed_again ++ line.Sent 7 2 1 (spelling (reply_on written_value)) ∷ line.Deliver 7 2 1
    ∷ line.Proxied 1 shared 1 written_value ∷ []
