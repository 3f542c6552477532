-- The effects of a step as they are told: its lines, and its messages as bytes.
use Rattle.std.specs.Prelude.{ℕ, Bool, true, false, List, [], ◌∷◌, ◌++◌, map}
use Rattle.conflict_order.specs.declared.version.Version.{Version}
use Rattle.cluster_types.specs.declared.cluster_key.ClusterKey.{ClusterKey}
use Rattle.journal_lines.specs.declared.line.Line.{Line}
use Rattle.journal_lines.specs.declared.line.Line.TheVariants as line
use Rattle.wire_messages.specs.declared.message.Message.{Message}
use Rattle.wire_messages.specs.declared.message.Message.TheVariants as message
use Rattle.wire_messages.specs.Spelling.{spelling}
use Rattle.clustering.specs.declared.steps.Vote.{Vote}
use Rattle.clustering.specs.declared.steps.Vote.TheVariants as vote
use Rattle.node_rules.specs.Effects as rules
use Rattle.node_steps.specs.declared.effects.Effects.{Effects}

-- each message as its bytes
abbrev pub spelled_sends : List (ℕ × Message) → List (ℕ × List ℕ)
spelled_sends sends = map (λ m. (m.0, spelling m.1)) sends

-- effects as they are told
abbrev pub spelled : rules.Effects → Effects
spelled e = record { lines = e.lines; sends = spelled_sends e.sends }

-- what was told so far, and then these effects
abbrev pub then_effects : Effects → rules.Effects → Effects
then_effects told e = record {
  lines = told.lines ++ e.lines;
  sends = told.sends ++ spelled_sends e.sends;
}

-- what was told so far, and then these messages
abbrev pub with_sends : Effects → List (ℕ × List ℕ) → Effects
with_sends told sends = record told { sends = told.sends ++ sends }

-- what was told so far, and then these lines
abbrev pub with_lines : Effects → List Line → Effects
with_lines told lines = record told { lines = told.lines ++ lines }

-- the lines of a write, which is done at once where the test holds
abbrev pub write_lines : ℕ → ClusterKey → ℕ → List ℕ → Version → Bool → List Line
write_lines me key number digest v true =
    line.Apply me key number digest v ∷ line.Done me key number ∷ []
write_lines me key number digest v false = line.Apply me key number digest v ∷ []

-- ---- votes

-- the message that tells the vote
abbrev pub vote_message : Vote → Message
vote_message (vote.Accept key) = message.Accept key
vote_message (vote.Refuse key promised) = message.Refuse key promised
