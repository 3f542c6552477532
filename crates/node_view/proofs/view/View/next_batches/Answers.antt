use Rattle.std.proofs.Common.{◌≡◌, ◌<◌, ℕ, List, false, is_some, sym, ap, ap₂, subst, ◌∙◌}
use Rattle.std.specs.Prelude.{IfSome, IsSome}
use Rattle.cluster_types.specs.declared.cluster_key.ClusterKey.{ClusterKey}
use Rattle.cluster_types.specs.Distinct.{AreDistinct}
use Rattle.wire_messages.specs.declared.message.Batch.{Batch}
use Rattle.node_rules.specs.Batches.{Targets, next_batch_to, target}
use Rattle.node_rules.specs.ByParts.{batches_due}
use Rattle.node_view.specs.Counts.{greatest_count}
use Rattle.node_view.specs.Fits.{AreNext}
use Rattle.node_view.specs.Views.{Viewed, viewed_key}
use Rattle.node_view.proofs.DueLaws.{batches_all, batches_more, due_are_next, few_sent, node_found, none_handed, others_nodes}
use Rattle.node_view.proofs.view.View.next_batches.Goals as goal

pub returns-in_default-clause-due : goal.returns-in_default-clause-due
returns-in_default-clause-due c =
    let i = c.self.inside in
    let v = c.args.self.now in
    let off : v.exchange.exchanged ≡ false = sym c.moving.ensures.some ∙ ap is_some c.in_default.is in
    let none = none_handed i.me i.factor i.key i.stage c.self.invariant.stage_of (ap (λ (u : Viewed). u.exchange.exchanged) c.self.view_is ∙ off) in
    c.new-due.ensures.items ∙ ap (batches_due (viewed_key v) c.args.store.now.versions) (sym none ∙ ap (λ (u : Viewed). u.batches) c.self.view_is)

pub next_batch-requires-clause-member : goal.next_batch-requires-clause-member
next_batch-requires-clause-member c =
    let ns = c.as_slice-n-items.result.now in
    let m = c.in-Some.moving.now in
    let nodes = others_nodes c.self.inside c.args.self.now m c.self.invariant c.self.view_is c.in-Some.ensures.moving ∙ sym c.as_slice-n-items.ensures.same in
    let distinct = subst (λ (xs : List ℕ). AreDistinct xs) (sym c.as_slice-n-items.ensures.same) c.as_slice-n-items.ensures.valid.distinct in
    subst (λ (ts : Targets). IsSome (target ts c.n-item.result)) (sym c.in-Some.ensures.moving.targets)
    (node_found c.args.self.now.batches ns c.loop-n.n-index c.n-item.result nodes distinct c.loop-n-test.true c.n-item.is)

pub next_batch-requires-clause-limit : goal.next_batch-requires-clause-limit
next_batch-requires-clause-limit c =
    subst (λ (ts : Targets). IfSome (target ts c.n-item.result) (λ t. t.batches < greatest_count)) (sym c.in-Some.ensures.moving.targets)
    (few_sent c.args.self.now.batches c.n-item.result greatest_count c.requires.counts)

pub loop-n-preserved : goal.loop-n-preserved
loop-n-preserved c =
    let v = c.args.self.now in
    let content = c.args.store.now.versions in
    let ns = c.as_slice-n-items.result.now in
    let n = c.n-item.result in
    let next : c.in_ok-batch.batch ≡ next_batch_to (viewed_key v) content v.batches n
    = c.in_ok-batch.ensures.batch ∙ ap₂ (λ (k : ClusterKey) (ts : Targets). next_batch_to k content ts n) c.in-Some.ensures.moving.own.key_of c.in-Some.ensures.moving.targets in
    batches_more (viewed_key v) content v.batches ns c.loop-n.n-index n c.loop-n.due.items c.push_batch.new.due.items c.in_ok-batch.batch
    c.loop-n-test.true c.n-item.is c.loop-n.invariant next c.in_ok-push_batch.ensures

pub returns-clause-due : goal.returns-clause-due
returns-clause-due c =
    let v = c.args.self.now in
    let ns = c.as_slice-n-items.result.now in
    let nodes = others_nodes c.self.inside v c.in-Some.moving.now c.self.invariant c.self.view_is c.in-Some.ensures.moving ∙ sym c.as_slice-n-items.ensures.same in
    let distinct = subst (λ (xs : List ℕ). AreDistinct xs) (sym c.as_slice-n-items.ensures.same) c.as_slice-n-items.ensures.valid.distinct in
    batches_all (viewed_key v) c.args.store.now.versions v.batches ns c.loop-n.n-index c.loop-n.due.items nodes distinct c.loop-n-test.false c.loop-n.invariant

pub returns-clause-next : goal.returns-clause-next
returns-clause-next c =
    let v = c.args.self.now in
    let ns = c.as_slice-n-items.result.now in
    let nodes = others_nodes c.self.inside v c.in-Some.moving.now c.self.invariant c.self.view_is c.in-Some.ensures.moving ∙ sym c.as_slice-n-items.ensures.same in
    let distinct = subst (λ (xs : List ℕ). AreDistinct xs) (sym c.as_slice-n-items.ensures.same) c.as_slice-n-items.ensures.valid.distinct in
    subst (λ (bs : List (ℕ × Batch)). AreNext v.exchange.exchanged (viewed_key v) v.batches bs)
    (sym (batches_all (viewed_key v) c.args.store.now.versions v.batches ns c.loop-n.n-index c.loop-n.due.items nodes distinct c.loop-n-test.false c.loop-n.invariant))
    (due_are_next (viewed_key v) c.args.store.now.versions v.batches ns v.exchange.exchanged (sym c.in-Some.ensures.some) nodes distinct c.requires.held)
