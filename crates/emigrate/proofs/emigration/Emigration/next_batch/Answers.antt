use Rattle.std.proofs.Common.{All, sym}
use Rattle.std.specs.FinMap.{get}
use Rattle.std.specs.Prelude.{IsSome}
use Rattle.node_rules.specs.Batches.{Target}
use Rattle.emigrate.proofs.TargetLaws.{holds_of_found}
use Rattle.emigrate.proofs.emigration.Emigration.next_batch.Goals as goal

pub next_batch-requires-clause-held : goal.next_batch-requires-clause-held
next_batch-requires-clause-held c =
    holds_of_found (λ (t : Target). All (λ d. IsSome (get c.args.store.now.versions d)) t.pending) c.args.self.now.targets c.args.to c.in-Some.outgoing.now (sym c.in-Some.ensures) c.requires.held.held
