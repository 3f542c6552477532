-- The ends of messages, and how many may be in flight.
use Rattle.std.specs.Prelude.{◌==◌, ◌&&◌, ℕ, nat_lt, Bool, not, List}
use Rattle.cluster_types.specs.Groups.{apart}

-- the client, as an endpoint of messages
abbrev pub client : ℕ
client = 0

-- so many messages may be in flight
abbrev pub flight_limit : ℕ
flight_limit = 262144

-- whether one more message may be in flight where there are so many
abbrev pub has_place : ℕ → Bool
has_place flying = nat_lt flying flight_limit

-- whether the two ends are nodes of different groups. The client stands in none
abbrev pub stand_apart : List (List ℕ) → ℕ → ℕ → Bool
stand_apart groups a b = not (a == client) && (not (b == client) && apart groups a b)
