-- A group of up nodes that no message crosses, and the kinds of messages that come to them.
use Rattle.std.specs.Prelude.{◌≡◌, ℕ, ◌==◌, ◌⊎◌, true, false, if◌then◌else◌, List, [], ◌∷◌}
use Rattle.wire_messages.specs.declared.message.Message.{Message}
use Rattle.wire_messages.specs.declared.message.Message.TheVariants as message
use Rattle.journal_readings.specs.Lines.{has_node}
use Rattle.cluster_rules.specs.Network.{are_apart}
use Rattle.cluster_rules.specs.World.{World, is_up}
use Rattle.calm_laws.specs.Flows.{Near}

-- the number of a message's kind, the same with roles and without
abbrev pub kind : Message → ℕ
kind (message.Heartbeat view promised hears role) = 1
kind (message.Propose key members) = 2
kind (message.Accept key) = 3
kind (message.Refuse refused promised) = 4
kind (message.Commit key members) = 5
kind (message.State key wants row) = 6
kind (message.Batch b) = 7
kind (message.BatchAck key number) = 8
kind (message.Progress key wants done handed settled) = 9
kind (message.Repl key transaction nth digest version) = 10
kind (message.ReplAck key transaction) = 11
kind (message.Ask key transaction digest) = 12
kind (message.Answer key transaction version) = 13
kind message.MapAsk = 14
kind (message.MapTable t) = 15
kind (message.Proxy key number digest want) = 19
kind (message.ProxyReply key number reply) = 20
kind (message.Call number digest want) = 21
kind (message.Reply key number reply) = 22
kind (message.ScanAsk scan partition after) = 23
kind (message.ScanPage page) = 24
kind (message.ScanNo scan refusal) = 25

-- it is none of the up nodes, and is down
pub record Down (ns : List ℕ) (w : World) (a : ℕ) : Type 0 where
  pub out : has_node ns a ≡ false
  pub down : is_up w a ≡ false

-- what it sends doesn't reach the node: they are apart, or it is down
abbrev pub Away : List ℕ → World → ℕ → ℕ → Type 0
Away ns w a m = (are_apart w.network a m ≡ true) ⊎ Down ns w a

-- each two of these up nodes reach each other, and nobody else that sends anything reaches them
pub record Group (ns gs : List ℕ) (w : World) : Type 0 where
  pub up : (m : ℕ) → has_node gs m ≡ true → has_node ns m ≡ true
  pub near : (a m : ℕ) → has_node gs a ≡ true → has_node gs m ≡ true → (a ≡ m → ⊥) → Near ns w a m
  pub away : (a m : ℕ) → has_node gs a ≡ false → has_node gs m ≡ true → Away ns w a m

-- the kinds of messages with which a message of that kind may be answered
abbrev pub replies : ℕ → List ℕ
replies k =
    if (k == 2) then 3 ∷ 4 ∷ []
    else if (k == 3) then 5 ∷ []
    else if (k == 6) then 6 ∷ []
    else if (k == 7) then 8 ∷ []
    else if (k == 9) then 9 ∷ []
    else if (k == 10) then 11 ∷ []
    else if (k == 12) then 13 ∷ []
    else if (k == 13) then 10 ∷ []
    else if (k == 14) then 15 ∷ []
    else []
