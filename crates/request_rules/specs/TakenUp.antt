-- Requests that a node took up for askers, and what it replies to them.
use Rattle.std.specs.Prelude.{◌≡◌, ℕ, ◌==◌, ◌&&◌, Bool, true, false, List, [], ◌∷◌, ◌++◌, Option, Some, None, find, map, option_map, AllPairs, if◌then◌else◌}
use Rattle.cluster_types.specs.declared.cluster_key.ClusterKey.{ClusterKey}
use Rattle.cluster_types.specs.Endpoints.{client}
use Rattle.journal_lines.specs.declared.line.Line.{Line}
use Rattle.journal_lines.specs.declared.line.Line.TheVariants as line
use Rattle.journal_lines.specs.declared.refusal.Refusal.{Refusal}
use Rattle.wire_messages.specs.declared.message.Message.{Message}
use Rattle.wire_messages.specs.declared.reply.ReplyBody.{ReplyBody}
use Rattle.wire_messages.specs.declared.reply.ReplyBody.TheVariants as reply
use Rattle.node_rules.specs.Effects.{to_one}
use Rattle.request_rules.specs.declared.taken.Asker.{Asker}
use Rattle.request_rules.specs.declared.taken.Outcome.{Outcome}
use Rattle.request_rules.specs.declared.taken.Outcome.TheVariants as outcome
use Rattle.request_rules.specs.declared.taken.Taken.{Taken}
use Rattle.request_rules.specs.Replies.{refusal_body, found_body, reply_to}

-- ---- what is known of a request

-- whether they are one asker with one number
abbrev pub same_asker : Asker → Asker → Bool
same_asker a b = (a.from == b.from) && (a.number == b.number)

-- what became of the asker's request; none where the node didn't take it up
abbrev pub outcome_for : List Taken → Asker → Option Outcome
outcome_for taken a = option_map (λ x. x.outcome) (find (λ x. same_asker x.asker a) taken)

-- whether the request's transaction is the open one of that number
abbrev pub is_bound_to : ℕ → Outcome → Bool
is_bound_to t (outcome.Open u) = u == t
is_bound_to t (outcome.Kept b) = false

-- for whom the open transaction of that number was taken up, if for anybody
abbrev pub bound_to : List Taken → ℕ → Option Asker
bound_to taken t = option_map (λ x. x.asker) (find (λ x. is_bound_to t x.outcome) taken)

-- no asker stands twice, and no transaction
pub record AreTakenOnce (taken : List Taken) : Type 0 where
  pub askers : AllPairs (λ x y. same_asker x.asker y.asker ≡ false) taken
  pub transactions : AllPairs (λ x y. (t : ℕ) → is_bound_to t x.outcome ≡ true
      → is_bound_to t y.outcome ≡ false) taken

-- ---- what changes

-- a request is taken up
abbrev pub taking_up : List Taken → Asker → Outcome → List Taken
taking_up taken a o = taken ++ record { asker = a; outcome = o } ∷ []

-- the request with that reply, where the test says that the reply is to it
abbrev pub replied_if : ReplyBody → Taken → Bool → Taken
replied_if b x true = record x { outcome = outcome.Kept b }
replied_if b x false = x

-- the transaction of that number ended: where it was taken up for an asker, the reply is kept in its place
abbrev pub keeping : List Taken → ℕ → ReplyBody → List Taken
keeping taken t b = map (λ x. replied_if b x (is_bound_to t x.outcome)) taken

-- the asker in hand, if there is one, has its request taken up
abbrev pub taking_up_for : List Taken → Option Asker → Outcome → List Taken
taking_up_for taken None o = taken
taking_up_for taken (Some a) o = taking_up taken a o

-- the reply to an asker that is refused is kept, unless the asker is the client
abbrev pub keeping_refusal : List Taken → Asker → Option ReplyBody → List Taken
keeping_refusal taken a None = taken
keeping_refusal taken a (Some b) =
    if a.from == client then taken else taking_up taken a (outcome.Kept b)

-- the asker in hand, if there is one, is refused
abbrev pub refusing_for : List Taken → Option Asker → Refusal → List Taken
refusing_for taken None cause = taken
refusing_for taken (Some a) cause = keeping_refusal taken a (refusal_body cause)

-- what a line of the node adds, with this asker in hand: a transaction opens for it, it is refused, a transaction
-- ends, or the node leaves its view and forgets all
abbrev pub note_taken : Option Asker → List Taken → Line → List Taken
note_taken a taken (line.Opened n key t d action) = taking_up_for taken a (outcome.Open t)
note_taken a taken (line.Refused n d cause) = refusing_for taken a cause
note_taken a taken (line.Value n key t d v) = keeping taken t (found_body v)
note_taken a taken (line.Done n key t) = keeping taken t reply.Done
note_taken a taken (line.Enter n key members) = []
note_taken a taken (line.Stop n) = []
note_taken a taken _ = taken

-- what lines add, one after another
abbrev pub noted_taken : Option Asker → List Taken → List Line → List Taken
noted_taken a taken [] = taken
noted_taken a taken (l ∷ ls) = noted_taken a (note_taken a taken l) ls

-- ---- the replies that lines owe

-- the reply to the asker, if there is one, with its receiver
abbrev pub reply_for : ClusterKey → Option Asker → ReplyBody → List (ℕ × Message)
reply_for key None b = []
reply_for key (Some a) b = to_one a.from (reply_to key a b)

-- the refusal goes to the asker in hand
abbrev pub refusal_for : ClusterKey → Option Asker → Option ReplyBody → List (ℕ × Message)
refusal_for key a None = []
refusal_for key a (Some b) = reply_for key a b

-- the reply that a line owes: a transaction ends that was taken up for an asker, or the asker in hand is refused
abbrev pub owed_by_line : ClusterKey → Option Asker → List Taken → Line → List (ℕ × Message)
owed_by_line key a taken (line.Value n k t d v) = reply_for key (bound_to taken t) (found_body v)
owed_by_line key a taken (line.Done n k t) = reply_for key (bound_to taken t) reply.Done
owed_by_line key a taken (line.Refused n d cause) = refusal_for key a (refusal_body cause)
owed_by_line key a taken _ = []

-- the replies that the lines of a step owe, in their order
abbrev pub owed : ClusterKey → Option Asker → List Taken → List Line → List (ℕ × Message)
owed key a taken [] = []
owed key a taken (l ∷ ls) = owed_by_line key a taken l ++ owed key a (note_taken a taken l) ls
