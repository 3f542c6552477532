use Rattle.std.proofs.Common.{bytes_eq}
use Rattle.std.specs.HashMap.{get}
use Rattle.dup_resolve.proofs.ClosingLaws.{same_counts, same_index}
use Rattle.dup_resolve.proofs.txns.Txns.reserve.Goals as goal

pub invariant_of-self-2 : goal.invariant_of-self-2
invariant_of-self-2 c =
    let old = c.self.inside in (
      same_index old.slots.running _ (λ q. get bytes_eq old.by_digest q) _ c.reserve.ensures.running c.reserve-2.ensures.entries.2 c.self.invariant.0,
      same_counts old.slots.running _ old.by_partition _ c.reserve.ensures.running c.reserve-3.ensures.same c.self.invariant.1,
    )
