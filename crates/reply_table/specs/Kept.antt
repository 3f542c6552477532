-- What a node keeps of requests that it took up, as a caller of the table sees it.
use Rattle.std.specs.Prelude.{◌≡◌, ◌==◌, ℕ, Bool, true, false, List, Option, Some, None}
use Rattle.wire_messages.specs.declared.reply.Known.{Known}
use Rattle.wire_messages.specs.declared.reply.Known.TheVariants as known
use Rattle.request_rules.specs.declared.taken.Outcome.{Outcome}
use Rattle.request_rules.specs.declared.taken.Outcome.TheVariants as outcome
use Rattle.request_rules.specs.declared.taken.Taken.{Taken}

pub record TakenWithRoom : Type 0 where
  pub taken : List Taken
  -- how many requests can be taken up without memory
  pub spare : ℕ

-- all but the room is the same
pub record KeepsTaken (old new : TakenWithRoom) : Type 0 where
  pub taken : new.taken ≡ old.taken

-- the transaction that is open
abbrev pub open_transaction : Outcome → Option ℕ
open_transaction (outcome.Open t) = Some t
open_transaction (outcome.Kept b) = None

-- whether that is the transaction, if there is one
abbrev pub is_transaction : Option ℕ → ℕ → Bool
is_transaction None n = false
is_transaction (Some t) n = t == n

-- whether the transaction of a request is open, if it was taken up
abbrev pub is_open : Option Outcome → Bool
is_open None = false
is_open (Some (outcome.Open t)) = true
is_open (Some (outcome.Kept b)) = false

-- what is told of a request says what became of it
abbrev pub TellsOutcome : Known → Option Outcome → Type 0
TellsOutcome known.New o = o ≡ None
TellsOutcome known.Open o = is_open o ≡ true
TellsOutcome (known.Kept b) o = o ≡ Some (outcome.Kept b.now)
