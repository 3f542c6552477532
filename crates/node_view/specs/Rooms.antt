-- The room that planned steps need, which taking them uses up.
use Rattle.std.specs.Prelude.{ℕ, ◌<◌, List, map}
use Rattle.std.specs.Option.{ForSome}
use Rattle.cluster_types.specs.Partitions.{partition_of}
use Rattle.record_store.specs.Store.{room_at}
use Rattle.record_store.specs.Store as held
use Rattle.node_view.specs.declared.view_step.Counted.{Counted}
use Rattle.node_view.specs.declared.view_step.Outcome.{Outcome}
use Rattle.node_view.specs.declared.view_step.Outcome.TheVariants as outcome
use Rattle.node_view.specs.declared.view_step.ViewStep.{ViewStep}
use Rattle.node_view.specs.declared.view_step.ViewStep.TheVariants as step
use Rattle.node_view.specs.Views.{ViewRoom, Viewed, digest_in}
use Rattle.node_view.specs.Writes.{HasRoomToHear}

-- there is room for the number of a write of the list master on the partition
abbrev pub HasRoomToCount : ViewRoom → ℕ → Counted → Type 0
HasRoomToCount room p c = HasRoomToHear room.further room.numbers p c.first

-- there is room for a write on the record
pub record HasRoomToWrite (room : ViewRoom) (spare : List ℕ) (digest : List ℕ) : Type 0 where
  pub store : 0 < room_at spare (partition_of digest)
  pub applies : 0 < room.applies

-- there is room for what resolves a transaction on the record
abbrev pub HasRoomForOutcome : ViewRoom → List ℕ → List ℕ → Outcome → Type 0
HasRoomForOutcome room spare digest outcome.Read = Unit {0}
HasRoomForOutcome room spare digest (outcome.Write w) = HasRoomToWrite room spare digest

-- there is room for the planned step in that view, where the store has that room
abbrev pub HasRoomIn : Viewed → List ℕ → ViewStep → Type 0
HasRoomIn v spare (step.Replicated r) =
    ForSome r.newer (λ _. 0 < room_at spare (partition_of r.digest))
    × ForSome r.counted (HasRoomToCount v.room (partition_of r.digest))
HasRoomIn v spare (step.Resolved from number answer o) =
    HasRoomForOutcome v.room spare (digest_in v number) o
HasRoomIn v spare (step.Opened digest w best asked o) =
    (0 < v.room.transactions) × ForSome o (HasRoomForOutcome v.room spare digest)
HasRoomIn v spare (step.Merged m) = held.HasRoom (map (λ r. r.0) m.newer) spare
HasRoomIn v spare _ = Unit {0}
