-- What a line does to the picture.
--
-- A line that stands for a message's arrival does what the message adds to what its receiver knows; one of
-- another view, or of no use, does nothing.
use Rattle.std.specs.Prelude.{ℕ, ◌==◌, nat_le, ◌&&◌, Bool, true, false, not, is_some, List, length, Option, Some, None}
use Rattle.conflict_order.specs.declared.version.Version.{Version}
use Rattle.cluster_types.specs.declared.cluster_key.ClusterKey.{ClusterKey}
pub use Rattle.cluster_types.specs.ClusterKeys.{is_view_key}
use Rattle.cluster_types.specs.Distinct.{contains}
use Rattle.wire_messages.specs.declared.message.Batch.{Batch}
use Rattle.wire_messages.specs.declared.message.Message.{Message}
use Rattle.wire_messages.specs.declared.message.Message.TheVariants as message
use Rattle.wire_messages.specs.Decoding.{message_of}
use Rattle.journal_lines.specs.declared.line.Line.{Line}
use Rattle.journal_lines.specs.declared.line.Line.TheVariants as line
use Rattle.cluster_laws.specs.Stay.{Running}
use Rattle.cluster_laws.specs.Picture.{Packet, Picture}

pub data Effect : Type 0 where
  Nothing : Effect
  Sets_clock : (n : ℕ) → (time : ℕ) → Effect
  -- views
  Enters : (n : ℕ) → (key : ClusterKey) → Effect
  Stops : (n : ℕ) → Effect
  Exchanges : (n : ℕ) → (key : ClusterKey) → Effect
  -- transactions
  Opens : (n : ℕ) → (key : ClusterKey) → (number : ℕ) → (digest : List ℕ) → Effect
  Answers : (n : ℕ) → (key : ClusterKey) → (number : ℕ) → Effect
  Applies : (n : ℕ) → (key : ClusterKey) → (number : ℕ) → (digest : List ℕ) → (version : Version)
      → Effect
  Finishes : (n : ℕ) → (key : ClusterKey) → (number : ℕ) → Effect
  Gives_up : (n : ℕ) → (key : ClusterKey) → (number : ℕ) → Effect
  -- copies
  Merges : (n : ℕ) → (key : ClusterKey) → (digest : List ℕ) → (version : Version) → Effect
  Hands : (n : ℕ) → (key : ClusterKey) → (part : ℕ) → Effect
  Settles : (n : ℕ) → (key : ClusterKey) → (part : ℕ) → Effect
  Learns : (n : ℕ) → (key : ClusterKey) → (part : ℕ) → Effect
  Drops : (n : ℕ) → (key : ClusterKey) → (part : ℕ) → Effect
  -- messages: one is sent, or one came to n from another node
  Sends : (number : ℕ) → (packet : Packet) → Effect
  Row_came : (n : ℕ) → (key : ClusterKey) → (from : ℕ) → Effect
  Batch_acked : (n : ℕ) → (key : ClusterKey) → (from : ℕ) → (batch : Batch) → Effect
  Told : (n : ℕ) → (key : ClusterKey) → (from : ℕ) → (done handed settled : List Bool) → Effect
  Write_came : (n : ℕ) → (key : ClusterKey) → (from : ℕ) → (nth : ℕ) → (digest : List ℕ)
      → (version : Version) → Effect
  Write_acked : (n : ℕ) → (key : ClusterKey) → (from : ℕ) → (number : ℕ) → (transaction : Running)
      → Effect
  Answered : (n : ℕ) → (key : ClusterKey) → (from : ℕ) → (number : ℕ) → (version : Option Version)
      → (transaction : Running) → Effect

-- ---- messages that came

-- the effect, where the test holds
abbrev pub effect_if : Effect → Bool → Effect
effect_if e true = e
effect_if e false = Nothing

-- a batch is acknowledged where it is out under that number
abbrev pub batch_ack : ℕ → ClusterKey → ℕ → ℕ → Option Batch → Effect
batch_ack n k from number None = Nothing
batch_ack n k from number (Some b) = effect_if (Batch_acked n k from b) (b.number == number)

-- a write is acknowledged where it is applied and the sender is awaited
abbrev pub write_ack : ℕ → ClusterKey → ℕ → ℕ → Option Running → Effect
write_ack n k from t None = Nothing
write_ack n k from t (Some y) =
    effect_if (Write_acked n k from t y) (is_some y.applied && contains y.awaiting from)

-- an answer counts where no write is applied and the sender is awaited
abbrev pub answer_effect : ℕ → ClusterKey → ℕ → ℕ → Option Version → Option Running → Effect
answer_effect n k from t v None = Nothing
answer_effect n k from t v (Some y) =
    effect_if (Answered n k from t v y) (not (is_some y.applied) && contains y.awaiting from)

-- what a message of the view does
abbrev pub comes : Picture → ℕ → ℕ → Message → Effect
comes w n from (message.State k wants row) =
    effect_if (Row_came n k from) (is_view_key (w.node n).view k)
comes w n from (message.BatchAck k number) =
    effect_if (batch_ack n k from number ((w.stay n k).out from)) (is_view_key (w.node n).view k)
comes w n from (message.Progress k wants done handed settled) =
    effect_if (Told n k from done handed settled) (is_view_key (w.node n).view k)
comes w n from (message.Repl k t nth d v) =
    effect_if (Write_came n k from nth d v) (is_view_key (w.node n).view k)
comes w n from (message.ReplAck k t) =
    effect_if (write_ack n k from t ((w.stay n k).running t)) (is_view_key (w.node n).view k)
comes w n from (message.Answer k t v) =
    effect_if (answer_effect n k from t v ((w.stay n k).running t)) (is_view_key (w.node n).view k)
comes w n from _ = Nothing

-- bytes that spell no message do nothing
abbrev pub comes_if : Picture → ℕ → ℕ → Option Message → Effect
comes_if w n from None = Nothing
comes_if w n from (Some m) = comes w n from m

-- a message comes to its receiver
abbrev pub arrives : Picture → Option Packet → Effect
arrives w None = Nothing
arrives w (Some p) = comes_if w p.to p.from p.message

-- at most so many bytes of a message come to its receiver
abbrev pub arrives_cut : Picture → ℕ → Option Packet → Effect
arrives_cut w size None = Nothing
arrives_cut w size (Some p) = effect_if (comes_if w p.to p.from p.message) (nat_le p.size size)

-- ---- lines

abbrev pub effect : Picture → Line → Effect
effect w (line.Clock n time) = Sets_clock n time
effect w (line.Enter n k members) = Enters n k
effect w (line.Stop n) = Stops n
effect w (line.Exchanged n k) = Exchanges n k
effect w (line.Opened n k t d action) = Opens n k t d
effect w (line.Value n k t d v) = Answers n k t
effect w (line.Apply n k t d v) = Applies n k t d v
effect w (line.Done n k t) = Finishes n k t
effect w (line.Aborted n k t) = Gives_up n k t
effect w (line.Doubt n k t) = Gives_up n k t
effect w (line.Merge n k d v) = Merges n k d v
effect w (line.Handed n k p) = Hands n k p
effect w (line.Settled n k p) = Settles n k p
effect w (line.Learn n k p) = Learns n k p
effect w (line.Drop n k p) = Drops n k p
effect w (line.Sent i a b bytes) =
    Sends i (record { from = a; to = b; size = length bytes; message = message_of bytes })
effect w (line.Deliver i a b) = arrives w (w.packet i)
effect w (line.Repeat i a b) = arrives w (w.packet i)
effect w (line.Cut i a b size) = arrives_cut w size (w.packet i)
effect w _ = Nothing
