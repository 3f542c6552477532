-- Requests that a node passes on to the node that acts.
use Rattle.std.specs.Prelude.{ℕ, ◌+◌, ◌==◌, Bool, true, false, List, [], ◌∷◌, ◌++◌, Option, Some, None, map, if◌then◌else◌}
use Rattle.conflict_order.specs.declared.want.Want.{Want}
use Rattle.conflict_order.specs.Action.{action_of}
use Rattle.cluster_types.specs.declared.cluster_key.ClusterKey.{ClusterKey}
use Rattle.cluster_types.specs.Partitions.{partition_of}
use Rattle.journal_lines.specs.declared.line.Line.{Line}
use Rattle.journal_lines.specs.declared.line.Line.TheVariants as line
use Rattle.journal_lines.specs.declared.refusal.Refusal.{Refusal}
use Rattle.journal_lines.specs.declared.refusal.Refusal.TheVariants as refusal
use Rattle.wire_messages.specs.declared.message.Message.{Message}
use Rattle.wire_messages.specs.declared.message.Message.TheVariants as message
use Rattle.wire_messages.specs.declared.reply.ReplyBody.{ReplyBody}
use Rattle.node_rules.specs.Effects.{Effects, lines_only, sends_only, to_one}
use Rattle.node_rules.specs.Facts.{Facts, view_key, list_at}
use Rattle.node_rules.specs.Notes.{in_view, request_want}
use Rattle.node_rules.specs.Requests.{due_request, request_refusal}
use Rattle.node_rules.specs.StaleMessages.{stale, spent}
use Rattle.request_rules.specs.declared.passed.Passed.{Passed}
use Rattle.request_rules.specs.declared.passed.ReplyStep.{ReplyStep}
use Rattle.request_rules.specs.declared.passed.ReplyStep.TheVariants as step
use Rattle.request_rules.specs.ByNumber.{ByNumber, item_under, without_number}
use Rattle.request_rules.specs.Requests.{PassedOn, none_passed}

-- ---- what is known of the requests that were passed on

-- whether the request waits for that node
abbrev pub waits_for : ℕ → Option Passed → Bool
waits_for from None = false
waits_for from (Some p) = p.to == from

-- what a reply from that node is, where the request waits for the node or doesn't
abbrev pub reply_step : Bool → ReplyStep
reply_step true = step.Taken
reply_step false = step.Spent

-- ---- what changes

-- a request is passed on to that node, with the next number
abbrev pub passing_to : PassedOn → List ℕ → Want → ℕ → PassedOn
passing_to r d w to = record {
  given = r.given + 1;
  waiting = r.waiting ++ (r.given + 1, record { digest = d; want = w; to = to }) ∷ [];
}

-- the request of that number is closed
abbrev pub closing_passed : PassedOn → ℕ → PassedOn
closing_passed r x = record r { waiting = without_number r.waiting x }

-- what a line of the node adds, with this want in hand, which no line tells of a put
abbrev pub note_passed : Option Want → PassedOn → Line → PassedOn
note_passed w r (line.Proxy n key x d a to) = passing_to r d (request_want w a) to
note_passed w r (line.Proxied n key x b) = closing_passed r x
note_passed w r (line.Unproxied n key x) = closing_passed r x
note_passed w r (line.Enter n key members) = none_passed
note_passed w r (line.Stop n) = none_passed
note_passed w r _ = r

-- what lines add, one after another
abbrev pub noted_passed : Option Want → PassedOn → List Line → PassedOn
noted_passed w r [] = r
noted_passed w r (l ∷ ls) = noted_passed w (note_passed w r l) ls

-- ---- a request that may be passed on

-- the message that passes the request on
abbrev pub proxy_of : ClusterKey → ℕ → Passed → Message
proxy_of key x p = message.Proxy key x p.digest p.want

-- the request is passed on to that node
abbrev pub passed_on : PassedOn → Facts → List ℕ → Want → ℕ → Effects
passed_on r f d w to = record {
  lines = line.Proxy f.me (view_key f) (r.given + 1) d (action_of w) to ∷ [];
  sends = to_one to (message.Proxy (view_key f) (r.given + 1) d w);
}

-- the node names that one: the request is passed on to it, unless it is the node itself
abbrev pub passed_on_to : PassedOn → Facts → ℕ → List ℕ → Want → ℕ → Effects
passed_on_to r f clock d w to =
    if to == f.me then due_request f clock d w else passed_on r f d w to

-- the request, by the first cause why the node refuses it
abbrev pub passing_if : PassedOn → Facts → ℕ → List ℕ → Want → Option Refusal → Effects
passing_if r f clock d w (Some (refusal.NotMaster a)) = passed_on_to r f clock d w a
passing_if r f clock d w (Some refusal.Down) = due_request f clock d w
passing_if r f clock d w (Some refusal.NoView) = due_request f clock d w
passing_if r f clock d w (Some (refusal.Exchanging m)) = due_request f clock d w
passing_if r f clock d w (Some (refusal.Busy t)) = due_request f clock d w
passing_if r f clock d w None = due_request f clock d w

-- what is due of a request at the node that may pass it on: where the first cause is that another node acts, the request
-- goes there, and otherwise it is a request as any
abbrev pub passing : PassedOn → Facts → ℕ → List ℕ → Want → Effects
passing r f clock d w = passing_if r f clock d w (request_refusal f (list_at f (partition_of d)) d)

-- what is due where the node is to send again what waits: each message once more, in rising order of the numbers,
-- without a line. A stopped node says that it is down
abbrev pub passing_again : PassedOn → Facts → Effects
passing_again r f =
    if f.up
    then sends_only (map (λ p. (p.1.to, proxy_of (view_key f) p.0 p.1)) r.waiting)
    else lines_only (line.Down f.me ∷ [])

-- ---- the reply

-- the reply where the request waits for the node that sent it, or doesn't
abbrev pub proxied_if : Facts → ℕ → ReplyBody → ReplyStep → Effects
proxied_if f x b step.Taken = lines_only (line.Proxied f.me (view_key f) x b ∷ [])
proxied_if f x b step.Spent = spent f

-- what is due of a ProxyReply from that node: it is stale in another view, and spent where no request of that number
-- waits for the node
abbrev pub on_proxy_reply : PassedOn → Facts → ℕ → ClusterKey → ℕ → ReplyBody → Effects
on_proxy_reply r f from key x b =
    if in_view f key
    then proxied_if f x b (reply_step (waits_for from (item_under r.waiting x)))
    else stale f

-- ---- leaving the view

-- the line of a request that the node gives up
abbrev pub given_up : ℕ → ClusterKey → ℕ × Passed → Line
given_up n key p = line.Unproxied n key p.0

-- whether the node leaves its view at the line
abbrev pub leaves : ℕ → Line → Bool
leaves n (line.Enter m key members) = m == n
leaves n (line.Stop m) = m == n
leaves n _ = false

-- the lines of a step with those of what the node of that number gives up of the view of that key: all that waits, right
-- before the first line at which it leaves the view
abbrev pub with_given_up : ByNumber Passed → ClusterKey → ℕ → List Line → List Line
with_given_up ps key n [] = []
with_given_up ps key n (l ∷ ls) =
    if leaves n l then map (given_up n key) ps ++ l ∷ ls else l ∷ with_given_up ps key n ls

-- whether a line is of a request that the node gives up
abbrev pub is_giving_up : ℕ → Line → Bool
is_giving_up n (line.Unproxied m key x) = m == n
is_giving_up n _ = false
