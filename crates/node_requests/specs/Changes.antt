-- The changes that the lines of a step make of what a node keeps of requests.
use Rattle.std.specs.Prelude.{◌≡◌, ◌<◌, ◌≤◌, ◌+◌, ◌-◌, ◌^◌, ◌==◌, ℕ, Bool, true, false, List, [], ◌∷◌, Option, Some, None, option_map, if◌then◌else◌}
use Rattle.conflict_order.specs.declared.want.Want.{Want}
use Rattle.cluster_types.specs.declared.cluster_key.ClusterKey.{ClusterKey}
use Rattle.journal_lines.specs.declared.line.Line.{Line}
use Rattle.journal_lines.specs.declared.line.Line.TheVariants as line
use Rattle.wire_messages.specs.declared.message.Message.{Message}
use Rattle.wire_messages.specs.declared.reply.ReplyBody.{ReplyBody}
use Rattle.wire_messages.specs.declared.reply.ReplyBody.TheVariants as reply
use Rattle.node_rules.specs.Notes.{request_want}
use Rattle.request_rules.specs.declared.taken.Asker.{Asker}
use Rattle.request_rules.specs.declared.taken.Outcome.TheVariants as outcome
use Rattle.request_rules.specs.declared.taken.Taken.{Taken}
use Rattle.request_rules.specs.Passing.{closing_passed, passing_to}
use Rattle.request_rules.specs.Replies.{found_body, refusal_body}
use Rattle.request_rules.specs.Requests.{NodeRequests, no_requests}
use Rattle.request_rules.specs.TakenUp.{bound_to, keeping, keeping_refusal, outcome_for, reply_for, taking_up}
use Rattle.proxy_path.specs.Room.{RequestsWithRoom}
use Rattle.node_requests.specs.declared.change.Change.{Change}
use Rattle.node_requests.specs.declared.change.Change.TheVariants as change

-- what is kept, whatever room there is
abbrev pub kept : RequestsWithRoom → NodeRequests
kept r = record { passed = r.passed; taken = r.taken }

-- ---- what a change makes of what is kept

abbrev pub changed : NodeRequests → Change → NodeRequests
changed r (change.Bind a t) = record r { taken = taking_up r.taken a (outcome.Open t) }
changed r (change.Refuse a b) = record r { taken = keeping_refusal r.taken a (Some b) }
changed r (change.End a t b) = record r { taken = keeping r.taken t b }
changed r (change.PassOn p) = record r { passed = passing_to r.passed p.digest p.want p.to }
changed r (change.Close x) = record r { passed = closing_passed r.passed x }
changed r change.Leave = no_requests

-- what changes make of it, one after another
abbrev pub all_changed : NodeRequests → List Change → NodeRequests
all_changed r [] = r
all_changed r (c ∷ cs) = all_changed (changed r c) cs

-- ---- when a change can be made

-- the request isn't known, and no request has the transaction
pub record IsNewAndFree (taken : List Taken) (a : Asker) (t : ℕ) : Type 0 where
  pub new : outcome_for taken a ≡ None
  pub free : bound_to taken t ≡ None

-- one that is taken up is new, and so is its transaction; one that is passed on gets a number
abbrev pub CanMake : NodeRequests → Change → Type 0
CanMake r (change.Bind a t) = IsNewAndFree r.taken a t
CanMake r (change.Refuse a b) = outcome_for r.taken a ≡ None
CanMake r (change.End a t b) = Unit {0}
CanMake r (change.PassOn p) = r.passed.given < 2 ^ 32 - 1
CanMake r (change.Close x) = Unit {0}
CanMake r change.Leave = Unit {0}

-- each change can be made once those before it are
abbrev pub CanMakeAll : NodeRequests → List Change → Type 0
CanMakeAll r [] = Unit {0}
CanMakeAll r (c ∷ cs) = CanMake r c × CanMakeAll (changed r c) cs

-- a change takes room for one request at most
pub record TakesRoomForOne (old new : RequestsWithRoom) : Type 0 where
  pub to_pass : old.to_pass ≤ new.to_pass + 1
  pub to_take : old.to_take ≤ new.to_take + 1

-- ---- what a change owes

-- the reply to one that is refused, and to one whose transaction ended
abbrev pub owed_by_change : ClusterKey → Option Change → List (ℕ × Message)
owed_by_change key (Some (change.Refuse a b)) = reply_for key (Some a) b
owed_by_change key (Some (change.End a t b)) = reply_for key (Some a) b
owed_by_change key _ = []

-- what a change makes of what is kept, if there is one
abbrev pub changed_by : NodeRequests → Option Change → NodeRequests
changed_by r None = r
changed_by r (Some c) = changed r c

-- ---- the change of a line

-- the asker in hand, if there is one, is refused with that reply, if there is one
abbrev pub refusing : Option Asker → Option ReplyBody → Option Change
refusing None b = None
refusing (Some a) None = None
refusing (Some a) (Some b) = Some (change.Refuse a b)

-- the transaction ended, which was taken up for that asker, if for anybody
abbrev pub ending : Option Asker → ℕ → ReplyBody → Option Change
ending a t b = option_map (λ x. change.End x t b) a

-- the change that a line makes, with this asker and this want in hand, if it makes any
abbrev pub change_of : Option Asker → Option Want → List Taken → Line → Option Change
change_of a w taken (line.Opened n key t d action) = option_map (λ x. change.Bind x t) a
change_of a w taken (line.Refused n d cause) = refusing a (refusal_body cause)
change_of a w taken (line.Value n key t d v) = ending (bound_to taken t) t (found_body v)
change_of a w taken (line.Done n key t) = ending (bound_to taken t) t reply.Done
change_of a w taken (line.Proxy n key x d action to) =
    Some (change.PassOn (record { digest = d; want = request_want w action; to = to }))
change_of a w taken (line.Proxied n key x b) = Some (change.Close x)
change_of a w taken (line.Unproxied n key x) = Some (change.Close x)
change_of a w taken (line.Enter n key members) = Some change.Leave
change_of a w taken (line.Stop n) = Some change.Leave
change_of a w taken _ = None

-- ---- for whom a transaction is open by then

-- the asker, if the test says so
abbrev pub only_where : Bool → Asker → Option Asker
only_where true a = Some a
only_where false a = None

-- the first of the two that is one
abbrev pub first_of : Option Asker → Option Asker → Option Asker
first_of None b = b
first_of (Some a) b = Some a

-- for whom the transaction of that number is open behind a change
abbrev pub bound_behind : ℕ → Option Asker → Change → Option Asker
bound_behind t bound (change.Bind a u) = first_of bound (only_where (u == t) a)
bound_behind t bound (change.End a u b) = if u == t then None else bound
bound_behind t bound change.Leave = None
bound_behind t bound (change.Refuse a b) = bound
bound_behind t bound (change.PassOn p) = bound
bound_behind t bound (change.Close x) = bound

-- and behind changes, one after another
abbrev pub bound_behind_all : ℕ → Option Asker → List Change → Option Asker
bound_behind_all t bound [] = bound
bound_behind_all t bound (c ∷ cs) = bound_behind_all t (bound_behind t bound c) cs
