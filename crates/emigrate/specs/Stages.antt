-- What is seen of a target in each of its stages.
use Rattle.std.specs.Prelude.{ℕ, List, [], Option, Some, None}
use Rattle.wire_messages.specs.declared.message.Batch.{Batch}
use Rattle.node_rules.specs.Batches.{Target}
use Rattle.emigrate.specs.declared.target.AfterAck.{AfterAck}
use Rattle.emigrate.specs.declared.target.AfterAck.TheVariants as after
use Rattle.emigrate.specs.declared.target.TargetStage.{TargetStage}
use Rattle.emigrate.specs.declared.target.TargetStage.TheVariants as stage

-- the digests that are pending
abbrev pub pending_in : TargetStage → List (List ℕ)
pending_in (stage.Ready pending) = pending
pending_in (stage.Sent awaiting) = awaiting.pending
pending_in (stage.Finished done) = []

-- the batch that is out
abbrev pub out_in : TargetStage → Option Batch
out_in (stage.Ready pending) = None
out_in (stage.Sent awaiting) = Some awaiting.batch
out_in (stage.Finished done) = None

-- the digests that are pending after a batch was acknowledged
abbrev pub pending_after : AfterAck → List (List ℕ)
pending_after (after.Ready pending) = pending
pending_after (after.Finished done) = []

-- the member's target in that stage, with so many batches that were sent
abbrev pub target_seen : ℕ → ℕ → TargetStage → Target
target_seen node batches s = record {
  node = node;
  pending = pending_in s;
  out = out_in s;
  batches = batches;
}
