-- What a node knows and has done in one view.
--
-- A node enters a key once, so the time in which it is in the view is one piece: its stay. A stay is
-- kept after the node left, and nothing in it changes any more. What a node knows of its view now is
-- the stay of its view's key.
use Rattle.std.specs.Prelude.{ℕ, Bool, false, List, [], Option, None}
use Rattle.conflict_order.specs.declared.version.Version.{Version}
use Rattle.conflict_order.specs.Contents.{Record, Write}
use Rattle.wire_messages.specs.declared.message.Batch.{Batch}

-- a version for each digest, or none
abbrev pub Versions : Type 0
Versions = List ℕ → Option Version

-- a transaction that is open
pub record Running : Type 0 where
  pub digest : List ℕ
  -- the join of what the node held as it opened and of the first answers of those that were asked
  pub best : Option Version
  -- whom it asked as it opened
  pub asked : List ℕ
  -- before the write is applied those whose answer is missing, and afterwards those whose acknowledgement is
  pub awaiting : List ℕ
  pub applied : Option Write

-- a write that was applied
pub record Applied : Type 0 where
  pub digest : List ℕ
  pub version : Version
  -- which of the node's writes in the view and partition it is, from 1
  pub nth : ℕ
  -- whether the partition's settling wasn't written yet
  pub early : Bool

pub record Stay : Type 0 where
  -- whether the node has entered the view, has finished the exchange, and has given up a transaction, as it does
  -- right before it leaves
  pub entered : Bool
  pub exchanged : Bool
  pub closing : Bool
  -- the members whose rows are there
  pub rows : ℕ → Bool
  -- what the node held as it entered, and the greatest that it has held in the view
  pub entry : Versions
  pub held : Versions
  -- the digests that are still to be handed on to a member
  pub pending : ℕ → List ℕ → Bool
  -- the batch that is out to a member, how many were sent to it, and the records of each by its number
  pub out : ℕ → Option Batch
  pub batches : ℕ → ℕ
  pub batch : ℕ → ℕ → Option (List Record)
  -- how many transactions were opened, the digest of each by its number, and those that are open
  pub opened : ℕ
  pub begun : ℕ → Option (List ℕ)
  pub running : ℕ → Option Running
  -- the write of each transaction that applied one, and whether each other replica has acknowledged it
  pub writes : ℕ → Option Applied
  pub done : ℕ → Bool
  -- how many writes of a partition the node applied, and the numbers of the list master's writes that reached it
  pub applies : ℕ → ℕ
  pub numbers : ℕ → List ℕ
  -- the partitions of which the node knows that they were handed over, and that their settling was written
  pub handed : ℕ → Bool
  pub settled : ℕ → Bool
  -- those that the node itself handed over, and whose settling it wrote itself
  pub own_handed : ℕ → Bool
  pub own_settled : ℕ → Bool
  -- the done bits of a member's last Progress
  pub told : ℕ → ℕ → Bool

-- nothing has happened in the view
abbrev pub blank : Stay
blank = record {
  entered = false;
  exchanged = false;
  closing = false;
  rows = λ _. false;
  entry = λ _. None;
  held = λ _. None;
  pending = λ _ _. false;
  out = λ _. None;
  batches = λ _. 0;
  batch = λ _ _. None;
  opened = 0;
  begun = λ _. None;
  running = λ _. None;
  writes = λ _. None;
  done = λ _. false;
  applies = λ _. 0;
  numbers = λ _. [];
  handed = λ _. false;
  settled = λ _. false;
  own_handed = λ _. false;
  own_settled = λ _. false;
  told = λ _ _. false;
}
