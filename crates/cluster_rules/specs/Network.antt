-- The network: the messages that were sent, those that are in flight, and the groups of nodes.
use Rattle.std.specs.Prelude.{ℕ, ◌-◌, nat_lt, Bool, List, [], ◌∷◌, ◌++◌, Option, None, slice_get, if◌then◌else◌}
use Rattle.cluster_types.specs.Distinct.{without}
use Rattle.cluster_types.specs.Endpoints.{stand_apart}
pub use Rattle.cluster_types.specs.Endpoints.{flight_limit, has_place}
use Rattle.journal_readings.specs.Lines.{has_node}
use Rattle.journal_readings.specs.Messages.{Posting}

pub record Network : Type 0 where
  -- all messages that were ever sent: the one of number I stands at place I - 1
  pub sent : List Posting
  -- the numbers of those in flight, in rising order
  pub flying : List ℕ
  -- the groups into which the nodes are divided
  pub groups : List (List ℕ)

-- nothing was sent, and the nodes are in one group
abbrev pub silent : List ℕ → Network
silent nodes = record { sent = []; flying = []; groups = nodes ∷ [] }

-- ---- messages by their numbers

-- the message of that number, if it was sent: they are numbered from 1
abbrev pub posting_at : Network → ℕ → Option Posting
posting_at net i = if nat_lt 0 i then slice_get net.sent (i - 1) else None

-- whether the message of that number is in flight
abbrev pub is_flying : Network → ℕ → Bool
is_flying net i = has_node net.flying i

-- the message of that number, if it is in flight
abbrev pub flying_at : Network → ℕ → Option Posting
flying_at net i = if is_flying net i then posting_at net i else None

-- ---- what happens to them

-- the message is no longer in flight
abbrev pub landed : Network → ℕ → Network
landed net i = record net { flying = without net.flying i }

-- one more message was sent, under this number
abbrev pub posting : Network → ℕ → Posting → Network
posting net i p = record net { sent = net.sent ++ p ∷ []; flying = net.flying ++ i ∷ [] }

-- ---- groups

-- whether the two ends are nodes of different groups. The client stands in none
abbrev pub are_apart : Network → ℕ → ℕ → Bool
are_apart net a b = stand_apart net.groups a b
