use Rattle.std.proofs.Common.{◌≡◌, ◌<◌, ◌++◌, ◌∷◌, [], ℕ, List, All, map, append-nil, append_assoc, refl, sym, ap, subst, ◌∙◌}
use Rattle.std.proofs.lemmas.List.{nil_from_length}
use Rattle.std.proofs.lemmas.List.Elements.{All-head, All-tail}
use Rattle.wire_messages.specs.Proper.{IsBatch}
use Rattle.wire_messages.specs.declared.message.Batch.{Batch}
use Rattle.node_rules.specs.Batches.{Targets}
use Rattle.node_rules.specs.ByParts.{batches_due}
use Rattle.node_rules.specs.Copies.{Content}
use Rattle.node_rules.specs.Facts.{Facts, view_key}
use Rattle.node_view.specs.Counts.{greatest_count}
use Rattle.node_view.specs.Fits.{AreNext}
use Rattle.node_view.specs.Views.{IsViewOf, viewed_key}
use Rattle.node_steps.specs.Ranges.{HasRanges}
use Rattle.node_steps.specs.Spelled.{with_sends}
use Rattle.node_steps.proofs.AgainLaws.{batches_fit, batches_told, batch_spelled, due_is, first_sent, next_is, none_next, sends_nothing}
use Rattle.node_steps.proofs.tick.batches.batches.Goals as goal

pub next_batches-requires-clause-held : goal.next_batches-requires-clause-held
next_batches-requires-clause-held c = (c.f.invariant.view c.in-Some.view c.in-Some.is).pending

pub next_batches-requires-clause-counts : goal.next_batches-requires-clause-counts
next_batches-requires-clause-counts c =
    let f : Facts = c.args.f.now in
    let own : IsViewOf f c.in-Some.view.now = subst (λ (g : Facts). IsViewOf g c.in-Some.view.now) c.f.view_is (c.f.invariant.view c.in-Some.view c.in-Some.is) in
    subst (λ (ts : Targets). All (λ t. t.batches < greatest_count) ts) (sym (ap (λ (g : Facts). g.batches) own.viewed.view)) c.requires.batches

pub loop-to-init : goal.loop-to-init
loop-to-init c =
    let f : Facts = c.args.f.now in
    let v = c.in-Some.view.now in
    let own : IsViewOf f v = subst (λ (g : Facts). IsViewOf g v) c.f.view_is (c.f.invariant.view c.in-Some.view c.in-Some.is) in
    let ranges : HasRanges f = subst HasRanges c.f.view_is c.f.invariant.ranges in
    let content : c.f.inside.store.now.versions ≡ f.store.content = ap (λ (g : Facts). g.store.content) c.f.view_is in
    let due : c.into_iter-to-iterator.result.rest.items ≡ batches_due (viewed_key v) f.store.content v.batches =
    c.into_iter-to-iterator.ensures.into_iter_gives.0 ∙ c.in_ok-items.ensures.due ∙ ap (λ (m : Content). batches_due (viewed_key v) m v.batches) content in
    (refl, refl, subst (λ (bs : List (ℕ × Batch)). All (λ b. IsBatch b.1) bs) (sym due) (batches_fit f v own (c.f.invariant.in_one c.in-Some.view c.in-Some.is) c.requires ranges))

pub send_batch-requires : goal.send_batch-requires
send_batch-requires c =
    let left : List (ℕ × Batch) = c.next.new.self.rest.items in
    All-head (λ (b : ℕ × Batch). IsBatch b.1) (c.in-Some-2.to, c.in-Some-2.batch) left
    (subst (λ (bs : List (ℕ × Batch)). All (λ b. IsBatch b.1) bs) c.in-Some-2.ensures.steps.0 c.loop-to.invariant.2)

pub loop-to-preserved : goal.loop-to-preserved
loop-to-preserved c =
    let left : List (ℕ × Batch) = c.next.new.self.rest.items in
    let b : ℕ × Batch = (c.in-Some-2.to, c.in-Some-2.batch) in
    let steps : c.loop-to.to-iterator.rest.items ≡ b ∷ left = c.in-Some-2.ensures.steps.0 in
    let pushed : c.push.new.self.items ≡ c.loop-to.sent.items ++ b ∷ [] =
    c.in_ok-push.ensures.items ∙ ap (λ (x : Batch). c.loop-to.sent.items ++ (c.in-Some-2.to, x) ∷ []) c.in_ok-batch.ensures.same in (
      first_sent c.loop-to.out c.send_batch.new.out b left c.in_ok-batch.ensures.sends
          ∙ ap (λ (bs : List (ℕ × Batch)). with_sends c.loop-to.out (map batch_spelled bs)) (sym steps) ∙ c.loop-to.invariant.0,
      ap (λ (bs : List (ℕ × Batch)). bs ++ left) pushed ∙ append_assoc c.loop-to.sent.items (b ∷ []) left
          ∙ ap (λ (bs : List (ℕ × Batch)). c.loop-to.sent.items ++ bs) (sym steps) ∙ c.loop-to.invariant.1,
      All-tail (λ (x : ℕ × Batch). IsBatch x.1) b left (subst (λ (bs : List (ℕ × Batch)). All (λ x. IsBatch x.1) bs) steps c.loop-to.invariant.2),
    )

pub returns-clause-sends : goal.returns-clause-sends
returns-clause-sends c =
    let f : Facts = c.args.f.now in
    let v = c.in-Some.view.now in
    let own : IsViewOf f v = subst (λ (g : Facts). IsViewOf g v) c.f.view_is (c.f.invariant.view c.in-Some.view c.in-Some.is) in
    let content : c.f.inside.store.now.versions ≡ f.store.content = ap (λ (g : Facts). g.store.content) c.f.view_is in
    let none : c.loop-to.to-iterator.rest.items ≡ [] = nil_from_length c.loop-to.to-iterator.rest.items (sym c.loop-to.to-iterator.rest.ok.0 ∙ c.in-None.ensures.steps.0) in
    let due : c.into_iter-to-iterator.result.rest.items ≡ batches_due (view_key f) f.store.content f.batches =
    c.into_iter-to-iterator.ensures.into_iter_gives.0 ∙ c.in_ok-items.ensures.due ∙ ap (λ (m : Content). batches_due (viewed_key v) m v.batches) content ∙ due_is f v own.viewed in
    sym (sends_nothing c.loop-to.out)
    ∙ ap (λ (bs : List (ℕ × Batch)). with_sends c.loop-to.out (map batch_spelled bs)) (sym none)
    ∙ c.loop-to.invariant.0
    ∙ batches_told c.args.out.now f c.into_iter-to-iterator.result.rest.items due

pub returns-clause-sent : goal.returns-clause-sent
returns-clause-sent c =
    let f : Facts = c.args.f.now in
    let v = c.in-Some.view.now in
    let own : IsViewOf f v = subst (λ (g : Facts). IsViewOf g v) c.f.view_is (c.f.invariant.view c.in-Some.view c.in-Some.is) in
    let content : c.f.inside.store.now.versions ≡ f.store.content = ap (λ (g : Facts). g.store.content) c.f.view_is in
    let none : c.loop-to.to-iterator.rest.items ≡ [] = nil_from_length c.loop-to.to-iterator.rest.items (sym c.loop-to.to-iterator.rest.ok.0 ∙ c.in-None.ensures.steps.0) in
    let due : c.into_iter-to-iterator.result.rest.items ≡ batches_due (view_key f) f.store.content f.batches =
    c.into_iter-to-iterator.ensures.into_iter_gives.0 ∙ c.in_ok-items.ensures.due ∙ ap (λ (m : Content). batches_due (viewed_key v) m v.batches) content ∙ due_is f v own.viewed in
    sym (append-nil c.loop-to.sent.items)
    ∙ ap (λ (bs : List (ℕ × Batch)). c.loop-to.sent.items ++ bs) (sym none)
    ∙ c.loop-to.invariant.1
    ∙ ap (λ (bs : List (ℕ × Batch)). bs ++ c.into_iter-to-iterator.result.rest.items) c.new-sent.ensures.items
    ∙ due

pub returns-clause-next : goal.returns-clause-next
returns-clause-next c =
    let f : Facts = c.args.f.now in
    let v = c.in-Some.view.now in
    let own : IsViewOf f v = subst (λ (g : Facts). IsViewOf g v) c.f.view_is (c.f.invariant.view c.in-Some.view c.in-Some.is) in
    let none : c.loop-to.to-iterator.rest.items ≡ [] = nil_from_length c.loop-to.to-iterator.rest.items (sym c.loop-to.to-iterator.rest.ok.0 ∙ c.in-None.ensures.steps.0) in
    let sent : c.in_ok-items.items.items ≡ c.loop-to.sent.items =
    sym c.into_iter-to-iterator.ensures.into_iter_gives.0
    ∙ sym (ap (λ (bs : List (ℕ × Batch)). bs ++ c.into_iter-to-iterator.result.rest.items) c.new-sent.ensures.items)
    ∙ sym c.loop-to.invariant.1
    ∙ ap (λ (bs : List (ℕ × Batch)). c.loop-to.sent.items ++ bs) none
    ∙ append-nil c.loop-to.sent.items in
    subst (λ (bs : List (ℕ × Batch)). AreNext f.exchange.exchanged (view_key f) f.batches bs) sent (next_is f v c.in_ok-items.items.items own.viewed c.in_ok-items.ensures.next)

pub returns-in_default-clause-next : goal.returns-in_default-clause-next
returns-in_default-clause-next c = none_next c.args.f.now.exchange.exchanged (view_key c.args.f.now) c.args.f.now.batches c.new-sent.result.items c.new-sent.ensures.items
