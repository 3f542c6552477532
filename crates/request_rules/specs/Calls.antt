-- Requests that the client sends as messages, and may send again.
use Rattle.std.specs.Prelude.{ℕ, ◌+◌, Bool, nat_lt, not, List, [], ◌∷◌, ◌++◌, Option, Some, None, length, if◌then◌else◌}
use Rattle.conflict_order.specs.declared.want.Want.{Want}
use Rattle.conflict_order.specs.Action.{action_of}
use Rattle.cluster_types.specs.Endpoints.{client}
use Rattle.cluster_types.specs.Partitions.{partition_of}
use Rattle.journal_lines.specs.declared.line.Line.{Line}
use Rattle.journal_lines.specs.declared.line.Line.TheVariants as line
use Rattle.wire_messages.specs.declared.message.Message.TheVariants as message
use Rattle.wire_messages.specs.declared.reply.ReplyBody.{ReplyBody}
use Rattle.node_rules.specs.Client.{Tables, node_for}
use Rattle.node_rules.specs.Effects.{Effects, nothing, lines_only, to_one}
use Rattle.node_rules.specs.Notes.{request_want}
use Rattle.request_rules.specs.declared.call.Call.{Call}
use Rattle.request_rules.specs.declared.call.CallStep.{CallStep}
use Rattle.request_rules.specs.declared.call.CallStep.TheVariants as step
use Rattle.request_rules.specs.ByNumber.{item_under, without_number}
use Rattle.request_rules.specs.Replies.{is_refusal}
use Rattle.request_rules.specs.Requests.{Calls}

-- ---- what is known of the client's requests

-- so many may be open
abbrev pub call_limit : ℕ
call_limit = 1024

-- whether no further request may be opened
abbrev pub is_full : Calls → Bool
is_full cs = not (nat_lt (length cs.waiting) call_limit)

-- what a reply is to an open request
abbrev pub step_by : ReplyBody → CallStep
step_by b = if is_refusal b then step.Refused else step.Closed

-- what a reply is to the request, if it is open
abbrev pub call_step : Option Call → ReplyBody → CallStep
call_step None b = step.Spent
call_step (Some c) b = step_by b

-- ---- what changes

-- a request is opened, with the next number
abbrev pub opening_call : Calls → List ℕ → Want → Calls
opening_call cs d w = record {
  given = cs.given + 1;
  waiting = cs.waiting ++ (cs.given + 1, record { digest = d; want = w }) ∷ [];
}

-- the request has its reply, and is closed, unless that is a refusal
abbrev pub replied_to : Calls → ℕ → ReplyBody → Calls
replied_to cs q b =
    if is_refusal b then cs else record cs { waiting = without_number cs.waiting q }

-- what a line adds, with this want in hand, which no line tells of a put
abbrev pub note_call : Option Want → Calls → Line → Calls
note_call w cs (line.Call q n d a) = opening_call cs d (request_want w a)
note_call w cs (line.Reply q n b) = replied_to cs q b
note_call w cs _ = cs

-- ---- what is due

-- the request goes to that node
abbrev pub called : Calls → List ℕ → Want → ℕ → Effects
called cs d w n = record {
  lines = line.Call (cs.given + 1) n d (action_of w) ∷ [];
  sends = to_one n (message.Call (cs.given + 1) d w);
}

-- the request where the client's tables name that node, or none
abbrev pub calling_named : Calls → List ℕ → Want → Option ℕ → Effects
calling_named cs d w None = lines_only (line.NoMap (partition_of d) ∷ [])
calling_named cs d w (Some n) =
    if is_full cs then lines_only (line.CallFull ∷ []) else called cs d w n

-- what is due of a request of the client: it goes as a message to the node that the tables name. Without a table, and
-- where too many are open, no number is given
abbrev pub calling : Tables → Calls → List ℕ → Want → Effects
calling tables cs d w = calling_named cs d w (node_for tables (partition_of d))

-- the request goes once more, to that node
abbrev pub called_again : ℕ → Call → Option ℕ → Effects
called_again q c None = nothing
called_again q c (Some n) = record {
  lines = line.Again q n ∷ [];
  sends = to_one n (message.Call q c.digest c.want);
}

-- the request of that number, if it is open, goes once more
abbrev pub calling_again_if : Tables → ℕ → Option Call → Effects
calling_again_if tables q None = lines_only (line.NoOpen q ∷ [])
calling_again_if tables q (Some c) = called_again q c (node_for tables (partition_of c.digest))

-- what is due where the client is to send a request again: the same message goes to the node that the tables name now.
-- A request that is open went by a table, so there is one
abbrev pub calling_again : Tables → Calls → ℕ → Effects
calling_again tables cs q = calling_again_if tables q (item_under cs.waiting q)

-- the reply from that node, where the request is open, or isn't
abbrev pub reply_lines : ℕ → ℕ → ReplyBody → CallStep → List Line
reply_lines from q b step.Closed = line.Reply q from b ∷ []
reply_lines from q b step.Refused = line.Reply q from b ∷ []
reply_lines from q b step.Spent = line.Spent client ∷ []

-- what is due of a Reply that reaches the client from that node
abbrev pub on_reply : Calls → ℕ → ℕ → ReplyBody → List Line
on_reply cs from q b = reply_lines from q b (call_step (item_under cs.waiting q) b)
