-- How requests that were taken up are found by their askers and by their transactions.
use Rattle.std.specs.Prelude.{◌≡◌, ◌<◌, ℕ, Bool, true, List, Option, Some, length, slice_get}
use Rattle.request_rules.specs.declared.taken.Asker.{Asker}
use Rattle.request_rules.specs.declared.taken.Taken.{Taken}
use Rattle.wire_messages.specs.declared.reply.ReplyBody.{ReplyBody}
use Rattle.request_rules.specs.TakenUp.{is_bound_to, keeping, outcome_for, same_asker}

-- the request that passes the test stands at that place
pub record StandsInPlace (taken : List Taken) (test : Taken → Bool) (place : ℕ) : Type 0 where
  pub request : Taken
  pub at : slice_get taken place ≡ Some request
  pub passes : test request ≡ true

-- the asker's request stands at that place
pub record IsPlaceOfAsker (taken : List Taken) (a : Asker) (place : ℕ) : Type 0 where
  pub within : place < length taken
  pub is : (x : Taken) → slice_get taken place ≡ Some x → outcome_for taken a ≡ Some x.outcome

-- no request's open transaction has that number, so its end changes nothing
abbrev pub IsNobodys : List Taken → ℕ → Type 0
IsNobodys taken t = (b : ReplyBody) → keeping taken t b ≡ taken

-- the maps have the place of each request by its asker, and while its transaction is open by that, and nothing else
pub record AreIndexed (taken : List Taken) (askers : Asker → Option ℕ) (transactions : ℕ → Option ℕ) : Type 0 where
  pub asker : (i : ℕ) (x : Taken) → slice_get taken i ≡ Some x → askers x.asker ≡ Some i
  pub asker_stands : (a : Asker) (i : ℕ) → askers a ≡ Some i
      → StandsInPlace taken (λ x. same_asker x.asker a) i
  pub transaction : (i : ℕ) (x : Taken) (t : ℕ) → slice_get taken i ≡ Some x
      → is_bound_to t x.outcome ≡ true → transactions t ≡ Some i
  pub transaction_stands : (t : ℕ) (i : ℕ) → transactions t ≡ Some i
      → StandsInPlace taken (λ x. is_bound_to t x.outcome) i
