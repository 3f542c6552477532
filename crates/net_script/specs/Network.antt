-- What a caller sees of the network, and what its calls make of that.
use Rattle.std.specs.Prelude.{◌≡◌, ◌==◌, ℕ, ◌+◌, ◌<◌, ◌≤◌, Bool, false, not, List, [], ◌∷◌, ◌++◌, if◌then◌else◌, length, map, filter, Option, Some, None, All, AllPairs}
use Rattle.cluster_types.specs.Endpoints.{has_place, stand_apart}
pub use Rattle.cluster_types.specs.Endpoints.{flight_limit}
use Rattle.net_script.specs.declared.net.Flying.{Flying}
use Rattle.net_script.specs.declared.net.Posted.{Posted}
use Rattle.net_script.specs.declared.net.Posted.TheVariants.{Kept, Full}

pub record NetworkState : Type 0 where
  -- the messages in flight, each behind its number, in rising number
  pub flying : List (ℕ × Flying)
  -- how many messages were sent so far
  pub sent : ℕ
  -- the groups that are apart, where any were set
  pub groups : Option (List (List ℕ))
  -- for how many messages there is room already
  pub spare : ℕ

-- a network on which nothing was sent, in one group
pub record IsNewNetwork (n : NetworkState) : Type 0 where
  pub flying : n.flying ≡ []
  pub sent : n.sent ≡ 0
  pub groups : n.groups ≡ None

-- all but the room is the same
pub record IsSameNetwork (m n : NetworkState) : Type 0 where
  pub flying : n.flying ≡ m.flying
  pub sent : n.sent ≡ m.sent
  pub groups : n.groups ≡ m.groups

-- the numbers rise strictly, from 1 at least to the last one at most
pub record AreNumbers (last : ℕ) (ids : List ℕ) : Type 0 where
  pub rising : AllPairs (λ i j. i < j) ids
  pub from_one : All (λ i. 0 < i) ids
  pub to_last : All (λ i. i ≤ last) ids

-- the numbers of the messages in flight
abbrev pub flying_ids : List (ℕ × Flying) → List ℕ
flying_ids es = map (λ e. e.0) es

-- the message of that number
abbrev pub flying_message : ℕ → List (ℕ × Flying) → Option Flying
flying_message id [] = None
flying_message id (e ∷ es) = if e.0 == id then Some e.1 else flying_message id es

-- the messages less that of this number
abbrev pub flying_without : ℕ → List (ℕ × Flying) → List (ℕ × Flying)
flying_without id es = filter (λ e. not (e.0 == id)) es

-- whether one more message may be in flight
abbrev pub has_flight_place : List (ℕ × Flying) → Bool
has_flight_place es = has_place (length es)

-- what is said of the next message: it is kept where it has a place, and else lost at once
abbrev pub next_posted : NetworkState → Posted
next_posted n = if has_flight_place n.flying then Kept (n.sent + 1) else Full (n.sent + 1)

-- what is in flight after the next message is sent
abbrev pub with_next : NetworkState → Flying → List (ℕ × Flying)
with_next n m = if has_flight_place n.flying then n.flying ++ (n.sent + 1, m) ∷ [] else n.flying

-- whether two endpoints are nodes of different groups. Endpoint 0, the client, stands in none
abbrev pub ends_apart : Option (List (List ℕ)) → ℕ → ℕ → Bool
ends_apart None a b = false
ends_apart (Some groups) a b = stand_apart groups a b
