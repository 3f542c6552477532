-- What a node makes of what comes to it: ticks, and messages that reach it.
use Rattle.std.specs.Prelude.{ℕ, List, [], ◌∷◌, ◌++◌, Option, Some, None, filter_map}
use Rattle.wire_messages.specs.declared.message.Message.{Message}
use Rattle.wire_messages.specs.Decoding.{message_of}
use Rattle.wire_messages.specs.Spelling.{spelling}
use Rattle.node_rules.specs.Effects.{Effects}
use Rattle.node_rules.specs.Facts.{Facts}
use Rattle.node_rules.specs.Messages.{due_message_of}
use Rattle.node_rules.specs.Notes.{noted, all_sent, reached}
use Rattle.node_rules.specs.Tick.{tick_of}

-- what comes to a node
pub data Input : Type 0 where
  Ticks : Input
  Gets : (from : ℕ) → (message : Message) → Input

-- ---- what is sent, as it will be read

-- a message to a node, as its bytes are read, if they are
abbrev pub read_to : ℕ → Option Message → Option (ℕ × Message)
read_to to None = None
read_to to (Some m) = Some (to, m)

abbrev pub reading : ℕ × Message → Option (ℕ × Message)
reading m = read_to m.0 (message_of (spelling m.1))

-- messages as they will be read
unfoldable pub as_read : List (ℕ × Message) → List (ℕ × Message)
as_read ms = filter_map reading ms

-- ---- one act

-- the facts as what comes is there
abbrev pub facing : Facts → Input → Facts
facing f Ticks = f
facing f (Gets from m) = reached f from m

-- what is due of it, at this time of the node's clock
abbrev pub effects : ℕ → ℕ → Facts → Input → Effects
effects n clock f Ticks = tick_of n f
effects n clock f (Gets from m) = due_message_of n f clock from m

-- the facts after effects, which begin with these facts
abbrev pub carried : Facts → Effects → Facts
carried f e = all_sent (noted None f e.lines) (as_read e.sends)

-- the facts after it
abbrev pub acted : ℕ → ℕ → Facts → Input → Facts
acted n clock f i = carried (facing f i) (effects n clock f i)

-- the messages that are sent of it, as they will be read
abbrev pub sent_at : ℕ → ℕ → Facts → Input → List (ℕ × Message)
sent_at n clock f i = as_read (effects n clock f i).sends

-- ---- acts in turn

-- the facts after all of these
abbrev pub served : ℕ → ℕ → Facts → List Input → Facts
served n clock f [] = f
served n clock f (i ∷ is) = served n clock (acted n clock f i) is

-- the messages that are sent meanwhile, in their order
abbrev pub outbox : ℕ → ℕ → Facts → List Input → List (ℕ × Message)
outbox n clock f [] = []
outbox n clock f (i ∷ is) = sent_at n clock f i ++ outbox n clock (acted n clock f i) is
