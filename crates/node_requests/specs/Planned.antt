-- What a node keeps of requests, with what a step is to make of it; and when the lines of a step can count.
use Rattle.std.specs.Prelude.{◌≡◌, ◌<◌, ◌-◌, ◌^◌, ℕ, List, [], ◌∷◌, Bool, true, false, Option, Some, None, All}
use Rattle.std.specs.List.{list_any}
use Rattle.std.specs.Option.{ForSome}
use Rattle.conflict_order.specs.declared.want.Want.{Want}
use Rattle.journal_lines.specs.declared.line.Line.{Line}
use Rattle.journal_lines.specs.declared.line.Line.TheVariants as line
use Rattle.wire_messages.specs.declared.message.Message.{Message}
use Rattle.wire_messages.specs.Proper.{IsProper}
use Rattle.request_rules.specs.declared.taken.Asker.{Asker}
use Rattle.request_rules.specs.declared.taken.Taken.{Taken}
use Rattle.request_rules.specs.LineNotes.{note_request}
use Rattle.request_rules.specs.Requests.{NodeRequests, no_requests}
use Rattle.request_rules.specs.TakenUp.{bound_to, outcome_for}

-- what is kept, and what is kept after the step that was planned last, where that isn't yet taken or given up
pub record PlannedRequests : Type 0 where
  pub now : NodeRequests
  pub next : Option NodeRequests

-- nothing is planned
abbrev pub unplanned : NodeRequests → PlannedRequests
unplanned r = record { now = r; next = None }

-- a step is planned, after which this is kept
abbrev pub planning : NodeRequests → NodeRequests → PlannedRequests
planning r after = record { now = r; next = Some after }

-- ---- what is asked of a step

-- the asker in hand, if there is one, isn't known
abbrev pub IsUnknown : Option Asker → List Taken → Type 0
IsUnknown a taken = ForSome a (λ x. outcome_for taken x ≡ None)

-- where there is an asker in hand, the transaction isn't open for anybody
abbrev pub IsUnbound : Option Asker → List Taken → ℕ → Type 0
IsUnbound a taken t = ForSome a (λ x. bound_to taken t ≡ None)

-- a line can count: an asker for whom a transaction opens, or who is refused, wasn't known, and the transaction is
-- nobody's; a request that is passed on gets a number
abbrev pub CanCount : Option Asker → NodeRequests → Line → Type 0
CanCount a r (line.Opened n key t d action) = IsUnknown a r.taken × IsUnbound a r.taken t
CanCount a r (line.Refused n d cause) = IsUnknown a r.taken
CanCount a r (line.Proxy n key x d action to) = r.passed.given < 2 ^ 32 - 1
CanCount a r _ = Unit {0}

-- so can each of the lines, once those before it have counted
abbrev pub CanAllCount : Option Asker → Option Want → NodeRequests → List Line → Type 0
CanAllCount a w r [] = Unit {0}
CanAllCount a w r (l ∷ ls) = CanCount a r l × CanAllCount a w (note_request a w r l) ls

-- each of the messages has a spelling
abbrev pub HaveSpellings : List (ℕ × Message) → Type 0
HaveSpellings ms = All (λ m. IsProper m.1) ms

-- ---- steps that change nothing

-- whether a request is passed on at the line
abbrev pub passes_on : Line → Bool
passes_on (line.Proxy n key x d action to) = true
passes_on _ = false

-- nothing is kept, nobody asks, and nothing is passed on
pub record ChangesNothing (a : Option Asker) (r : NodeRequests) (ls : List Line) : Type 0 where
  pub nobody : a ≡ None
  pub nothing : r ≡ no_requests
  pub stays : list_any passes_on ls ≡ false
