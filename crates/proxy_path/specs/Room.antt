-- The requests of a node that go as messages, with room for further ones.
use Rattle.std.specs.Prelude.{◌≡◌, ◌<◌, ◌≤◌, ℕ, List}
use Rattle.request_rules.specs.declared.taken.Taken.{Taken}
use Rattle.request_rules.specs.Requests.{PassedOn}

pub record RequestsWithRoom : Type 0 where
  pub passed : PassedOn
  pub taken : List Taken
  -- how many requests can be passed on without memory
  pub to_pass : ℕ
  -- how many can be taken up
  pub to_take : ℕ

-- one request can be passed on, one bound and the reply to one kept without memory
pub record HasRoomForEach (r : RequestsWithRoom) : Type 0 where
  pub to_pass : 0 < r.to_pass
  pub to_take : 2 ≤ r.to_take

-- so many requests can be passed on, and as many taken up, without memory
pub record HasRoomFor (n : ℕ) (r : RequestsWithRoom) : Type 0 where
  pub to_pass : n ≤ r.to_pass
  pub to_take : n ≤ r.to_take

-- no less room
pub record HasNoLessRoom (old new : RequestsWithRoom) : Type 0 where
  pub to_pass : old.to_pass ≤ new.to_pass
  pub to_take : old.to_take ≤ new.to_take

-- all but the room is the same
pub record KeepsRequests (old new : RequestsWithRoom) : Type 0 where
  pub passed : new.passed ≡ old.passed
  pub taken : new.taken ≡ old.taken
