-- What a message that the node sent adds to its facts.
use Rattle.std.specs.Prelude.{ℕ, List, [], ◌∷◌}
use Rattle.wire_messages.specs.declared.message.Message.{Message}
use Rattle.wire_messages.specs.declared.message.Message.TheVariants as message
use Rattle.node_rules.specs.Agreement as agreement
use Rattle.node_rules.specs.Batches as batches
use Rattle.node_rules.specs.Facts.{Facts}

-- what a message adds that the node sent
abbrev pub sent : Facts → ℕ → Message → Facts
sent f to (message.Propose key members) = record f {
  agreement = agreement.proposing f.agreement f.me key members;
}
sent f to (message.Batch b) = record f { batches = batches.sending f.batches to b }
sent f to _ = f

-- what messages add that the node sent, one after another
abbrev pub all_sent : Facts → List (ℕ × Message) → Facts
all_sent f [] = f
all_sent f (m ∷ ms) = all_sent (sent f m.0 m.1) ms
