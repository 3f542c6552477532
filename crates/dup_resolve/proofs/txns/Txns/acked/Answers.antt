use Rattle.std.proofs.Common.{ℕ, List, bytes_eq, sym, ap, ◌∙◌, subst}
use Rattle.std.specs.HashMap.{get}
use Rattle.dup_resolve.specs.Open.{acknowledged_if}
use Rattle.dup_resolve.specs.Places.{AreOpenCounts, IsIndex, txn_entries}
use Rattle.dup_resolve.proofs.IndexLaws.{entries_changed, acknowledged_entry}
use Rattle.dup_resolve.proofs.txns.Txns.acked.Goals as goal

pub invariant_of-self : goal.invariant_of-self
invariant_of-self c =
    let same = ap txn_entries c.acknowledge.ensures.running ∙ entries_changed (acknowledged_if c.args.from) (acknowledged_entry c.args.from) c.self.inside.slots.running c.args.t in
    subst (λ (es : List (List ℕ × ℕ)). IsIndex es (λ q. get bytes_eq c.self.inside.by_digest q) × AreOpenCounts es c.self.inside.by_partition) (sym same) c.self.invariant
