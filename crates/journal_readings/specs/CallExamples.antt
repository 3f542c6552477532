-- Short journals of a request that the client sends as a message.
use Rattle.std.specs.Prelude.{List, [], ◌∷◌, ◌++◌, None}
use Rattle.conflict_order.specs.declared.want.Action.TheVariants as action
use Rattle.conflict_order.specs.declared.want.Want.TheVariants as want
use Rattle.cluster_types.specs.ClusterKeys as keys
use Rattle.wire_messages.specs.declared.message.Message.{Message}
use Rattle.wire_messages.specs.declared.message.Message.TheVariants as message
use Rattle.wire_messages.specs.declared.reply.ReplyBody.TheVariants as reply
use Rattle.wire_messages.specs.Spelling.{spelling}
use Rattle.journal_lines.specs.declared.refusal.Refusal.TheVariants as refusal
use Rattle.journal_lines.specs.declared.line.Line.{Line}
use Rattle.journal_lines.specs.declared.line.Line.TheVariants as line
use Rattle.journal_readings.specs.Examples.{digest, key, version, one}

-- a node that is alone, and ready
abbrev pub ready : List Line
ready =
    line.Node 1 None ∷ line.Promise 1 (key 1 1) ∷ line.Enter 1 (key 1 1) one
    ∷ line.Exchanged 1 (key 1 1) ∷ []

-- call 1 writes the letter a
abbrev pub write_a : Message
write_a = message.Call 1 digest (want.Put (97 ∷ []))

abbrev pub write_done : Message
write_done = message.Reply (key 1 1) 1 reply.Done

-- the client calls, and the call arrives
abbrev pub called : List Line
called =
    line.Call 1 1 digest action.Put ∷ line.Sent 1 0 1 (spelling write_a) ∷ line.Repeat 1 0 1 ∷ []

-- the node writes
abbrev pub written_there : List Line
written_there =
    line.Opened 1 (key 1 1) 1 digest action.Put ∷ line.Apply 1 (key 1 1) 1 digest (version 0 1 97)
    ∷ line.Done 1 (key 1 1) 1 ∷ []

abbrev pub opened_once : List Line
opened_once = ready ++ called ++ written_there ++ line.Sent 2 1 0 (spelling write_done) ∷ []

-- ---- one that comes again and again

-- the reply is lost, the call is sent again and the reply, which the node kept, comes; then the first call comes once
-- more, and its reply is of no use any more
abbrev pub called_again : List Line
called_again =
    opened_once ++ line.Lost 2 ∷ line.Again 1 1 ∷ line.Sent 3 0 1 (spelling write_a)
    ∷ line.Deliver 3 0 1 ∷ line.Sent 4 1 0 (spelling write_done) ∷ line.Deliver 4 1 0
    ∷ line.Reply 1 1 reply.Done ∷ line.Deliver 1 0 1 ∷ line.Sent 5 1 0 (spelling write_done)
    ∷ line.Deliver 5 1 0 ∷ line.Spent 0 ∷ []

-- ---- one that is refused first

abbrev pub no_view_yet : Message
no_view_yet = message.Reply keys.none 1 reply.NoView

-- the node has no view yet and refuses; then it has one, and the call comes again
abbrev pub called_early : List Line
called_early =
    line.Node 1 None ∷ called ++ line.Refused 1 digest refusal.NoView
    ∷ line.Sent 2 1 0 (spelling no_view_yet) ∷ line.Deliver 2 1 0 ∷ line.Reply 1 1 reply.NoView
    ∷ line.Promise 1 (key 1 1) ∷ line.Enter 1 (key 1 1) one ∷ line.Exchanged 1 (key 1 1)
    ∷ line.Deliver 1 0 1 ∷ written_there
    ++ line.Sent 3 1 0 (spelling write_done) ∷ line.Deliver 3 1 0 ∷ line.Reply 1 1 reply.Done ∷ []

-- ---- what goes wrong

-- a second call has the number of the first
abbrev pub called_twice : List Line
called_twice = ready ++ called ++ called

-- the call comes again, and is opened again in the same view
abbrev pub written_twice : List Line
written_twice =
    opened_once ++ line.Deliver 1 0 1 ∷ line.Opened 1 (key 1 1) 2 digest action.Put ∷ []

-- a reply comes of a call that the client didn't make
abbrev pub uncalled : List Line
uncalled =
    ready ++ line.Sent 1 0 1 (spelling write_a) ∷ line.Deliver 1 0 1 ∷ written_there
    ++ line.Sent 2 1 0 (spelling write_done) ∷ line.Deliver 2 1 0 ∷ line.Reply 1 1 reply.Done ∷ []

-- the node replies before its write is done
abbrev pub answered_early : List Line
answered_early =
    ready ++ called ++ line.Opened 1 (key 1 1) 1 digest action.Put
    ∷ line.Sent 2 1 0 (spelling write_done) ∷ line.Done 1 (key 1 1) 1 ∷ line.Deliver 2 1 0
    ∷ line.Reply 1 1 reply.Done ∷ []

-- the client takes another reply than the one that comes
abbrev pub misheard : List Line
misheard =
    opened_once ++ line.Deliver 2 1 0 ∷ line.Reply 1 1 reply.Nothing ∷ []

-- the node says that it has no view, and had said that it was busy
abbrev pub misexplained : List Line
misexplained =
    line.Node 1 None ∷ called ++ line.Refused 1 digest (refusal.Busy 1)
    ∷ line.Sent 2 1 0 (spelling no_view_yet) ∷ line.Deliver 2 1 0 ∷ line.Reply 1 1 reply.NoView ∷ []

-- a reply is taken of a call that is closed
abbrev pub heard_twice : List Line
heard_twice =
    opened_once ++ line.Deliver 2 1 0 ∷ line.Reply 1 1 reply.Done ∷ line.Deliver 1 0 1
    ∷ line.Sent 3 1 0 (spelling write_done) ∷ line.Deliver 3 1 0 ∷ line.Reply 1 1 reply.Done ∷ []
