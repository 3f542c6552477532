-- Messages that are sent as bytes, one after another.
use Rattle.std.specs.Prelude.{◌≡◌, ℕ, ◌+◌, true, List, [], ◌∷◌, ◌++◌, Option, Some, None, is_some, if◌then◌else◌}
use Rattle.journal_lines.specs.declared.line.Line.{Line}
use Rattle.journal_lines.specs.declared.line.Line.TheVariants as line
use Rattle.net_script.specs.declared.net.Flying.{Flying}
use Rattle.net_script.specs.Network as nets
use Rattle.cluster_rules.specs.Network.{has_place}

-- receivers and bytes
abbrev pub Sends : Type 0
Sends = List (ℕ × List ℕ)

-- their lines, where so many messages were sent before and so many are in flight
abbrev pub posted_lines : ℕ → ℕ → ℕ → Sends → List Line
posted_lines from sent flying [] = []
posted_lines from sent flying (m ∷ ms) =
    line.Sent (sent + 1) from m.0 m.1
    ∷ ((if has_place flying then [] else line.Full (sent + 1) ∷ [])
    ++ posted_lines from (sent + 1) (if has_place flying then flying + 1 else flying) ms)

-- the network after one was sent
abbrev pub posted_in : nets.NetworkState → ℕ → ℕ × List ℕ → nets.NetworkState
posted_in net from m = record net {
  flying = nets.with_next net (record { from = from; to = m.0; bytes = m.1 });
  sent = net.sent + 1;
}

-- and after all of them
abbrev pub all_posted_in : nets.NetworkState → ℕ → Sends → nets.NetworkState
all_posted_in net from [] = net
all_posted_in net from (m ∷ ms) = all_posted_in (posted_in net from m) from ms

-- the message that leaves is in flight, if there is one
abbrev pub IsInFlight : List (ℕ × Flying) → Option ℕ → Type 0
IsInFlight flying None = Unit {0}
IsInFlight flying (Some i) = is_some (nets.flying_message i flying) ≡ true

-- the network without the message that leaves it, if one does
abbrev pub landing_from : nets.NetworkState → Option ℕ → nets.NetworkState
landing_from net None = net
landing_from net (Some i) = record net { flying = nets.flying_without i net.flying }
