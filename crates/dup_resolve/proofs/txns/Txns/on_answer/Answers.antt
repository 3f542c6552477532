use Rattle.std.proofs.Common.{ℕ, List, bytes_eq, sym, ap, ◌∙◌, subst}
use Rattle.std.specs.HashMap.{get}
use Rattle.dup_resolve.specs.Open.{answered_if}
use Rattle.dup_resolve.specs.Places.{AreOpenCounts, IsIndex, txn_entries}
use Rattle.dup_resolve.proofs.IndexLaws.{entries_changed, answered_entry}
use Rattle.dup_resolve.proofs.txns.Txns.on_answer.Goals as goal

pub invariant_of-self : goal.invariant_of-self
invariant_of-self c =
    let same = ap txn_entries c.answer.ensures.running ∙ entries_changed (answered_if c.self.inside.by c.args.from c.args.v) (answered_entry c.self.inside.by c.args.from c.args.v) c.self.inside.slots.running c.args.t in
    subst (λ (es : List (List ℕ × ℕ)). IsIndex es (λ q. get bytes_eq c.self.inside.by_digest q) × AreOpenCounts es c.self.inside.by_partition) (sym same) c.self.invariant
