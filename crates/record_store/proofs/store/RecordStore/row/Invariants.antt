use Rattle.std.proofs.Common.{◌≡◌, ℕ, ◌<◌, All}
use Rattle.cluster_types.specs.StateRows.{state_of}
use Rattle.cluster_types.specs.Copies.{state_of_copy}
use Rattle.record_store.proofs.store.RecordStore.row.Given as goal

abbrev pub invariant-loop-number : goal.invariant-loop-number
invariant-loop-number l = record {
  below : All (λ e. e.0 < l.number) l.row;
  states : (p : ℕ) → p < l.number → state_of l.row p ≡ state_of_copy l.self.versions l.self.stamps p;
}
