use Rattle.std.proofs.Common.{◌≡◌, ◌+◌, All, List, ℕ, None, take, sym, ap, subst, ◌∙◌}
use Rattle.std.specs.FinMap.{get}
use Rattle.std.specs.Prelude.{IsSome}
use Rattle.wire_messages.specs.declared.message.Batch.{Batch}
use Rattle.node_rules.specs.Batches.{Target, batch_limit, records_of}
use Rattle.emigrate.specs.Going.{IsNext}
use Rattle.emigrate.specs.Stages.{target_seen}
use Rattle.emigrate.proofs.FirstLaws.{next_is}
use Rattle.emigrate.proofs.outgoing.Outgoing.next_batch.Goals as goal

pub returns-in_ok-new_batch-in-Ready-clause-next : goal.returns-in_ok-new_batch-in-Ready-clause-next
returns-in_ok-new_batch-in-Ready-clause-next c =
    let versions = c.args.store.now.versions in
    let batch = c.in_ok-new_batch-in-Ready.field-0 in
    let of : List (List ℕ) → Batch = λ ds. record { key = c.args.key; number = c.self.inside.batches + 1; records = records_of versions (take batch_limit ds) } in
    let seen : Target = record { node = c.self.inside.node; pending = c.in-Ready.ready; out = None; batches = c.self.inside.batches } in
    let same : seen ≡ c.args.self.now = ap (target_seen c.self.inside.node c.self.inside.batches) (sym c.in-Ready.is) ∙ c.self.view_is in
    let held : All (λ d. IsSome (get versions d)) c.in-Ready.ready = subst (λ (t : Target). All (λ d. IsSome (get versions d)) t.pending) (sym same) c.requires.held in
    let is : batch ≡ of c.in-Ready.ready = c.in_ok-new_batch-in-Ready.ensures ∙ ap of c.pending.ensures.same in
    subst (λ (t : Target). IsNext c.args.key t batch) same
    (next_is c.args.key versions c.self.inside.node c.self.inside.batches c.in-Ready.ready batch is c.pending.ensures.some held)
