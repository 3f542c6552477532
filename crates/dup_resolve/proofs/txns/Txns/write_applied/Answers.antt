use Rattle.std.proofs.Common.{ℕ, List, bytes_eq, refl, sym, ap, ◌∙◌, subst}
use Rattle.std.specs.HashMap.{get}
use Rattle.dup_resolve.specs.Open.{txn_with_write}
use Rattle.dup_resolve.specs.Places.{AreOpenCounts, IsIndex, txn_entries}
use Rattle.dup_resolve.proofs.IndexLaws.{entries_changed}
use Rattle.dup_resolve.proofs.txns.Txns.write_applied.Goals as goal

pub invariant_of-self : goal.invariant_of-self
invariant_of-self c =
    let same = ap txn_entries c.write_applied.ensures.running ∙ entries_changed (txn_with_write c.args.to) (λ t. (refl, refl)) c.self.inside.slots.running c.args.t in
    subst (λ (es : List (List ℕ × ℕ)). IsIndex es (λ q. get bytes_eq c.self.inside.by_digest q) × AreOpenCounts es c.self.inside.by_partition) (sym same) c.self.invariant
