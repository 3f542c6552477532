-- What a step does: its lines, and the messages that it sends.
use Rattle.std.specs.Prelude.{ℕ, List, [], ◌∷◌, ◌++◌, map}
use Rattle.journal_lines.specs.declared.line.Line.{Line}
use Rattle.wire_messages.specs.declared.message.Message.{Message}

-- what one step of a node does
pub record Effects : Type 0 where
  -- the node's lines, in their order
  pub lines : List Line
  -- the receiver of each message and the message, in the order of sending
  pub sends : List (ℕ × Message)

-- neither lines nor messages
abbrev pub nothing : Effects
nothing = record { lines = []; sends = [] }

-- lines without messages
abbrev pub lines_only : List Line → Effects
lines_only ls = record { lines = ls; sends = [] }

-- messages without lines
abbrev pub sends_only : List (ℕ × Message) → Effects
sends_only ms = record { lines = []; sends = ms }

-- lines and messages
abbrev pub lines_and_sends : List Line → List (ℕ × Message) → Effects
lines_and_sends ls ms = record { lines = ls; sends = ms }

-- a message to each of these nodes
abbrev pub to_each : List ℕ → Message → List (ℕ × Message)
to_each ns m = map (λ n. (n, m)) ns

-- a message to one node
abbrev pub to_one : ℕ → Message → List (ℕ × Message)
to_one n m = (n, m) ∷ []

-- the one and then the other
abbrev pub followed_by : Effects → Effects → Effects
followed_by a b = record { lines = a.lines ++ b.lines; sends = a.sends ++ b.sends }
