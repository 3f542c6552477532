use Rattle.std.proofs.Common.{List, ℕ, None, bytes_eq, cond, ap, ◌∙◌}
use Rattle.std.specs.HashMap.{get}
use Rattle.dup_resolve.proofs.ClosingLaws.{closed}
use Rattle.dup_resolve.proofs.txns.Txns.finish.Goals as goal

pub remove-requires-in-Some : goal.remove-requires-in-Some
remove-requires-in-Some c =
    let old = c.self.inside in
    let left = closed old.slots.opened old.slots.running c.args.t c.in-Some.digest (λ q. get bytes_eq old.by_digest q) old.by_partition c.take.ensures.numbers c.self.invariant.0 c.self.invariant.1 c.in-Some.ensures.digest in
    left.some _ c.partition_of.ensures

pub invariant_of-self : goal.invariant_of-self
invariant_of-self c =
    let old = c.self.inside in
    let left = closed old.slots.opened old.slots.running c.args.t c.in-Some.digest (λ q. get bytes_eq old.by_digest q) old.by_partition c.take.ensures.numbers c.self.invariant.0 c.self.invariant.1 c.in-Some.ensures.digest in (
      left.index _ _ c.take.ensures.running (λ q. c.remove.ensures.updates.0 q ∙ ap (λ (k : List ℕ). cond (bytes_eq k q) None (get bytes_eq old.by_digest q)) c.bytes.ensures.same),
      left.counts _ _ _ c.take.ensures.running c.partition_of.ensures c.remove-in-Some.ensures,
    )
