use Rattle.std.proofs.Common.{ℕ, List, Option, Some, None, Bor, take, ap, sym, ◌∙◌}
use Rattle.std.proofs.lemmas.Result.{IfOk-weaker}
use Rattle.std.specs.Option.{option_copied}
use Rattle.sorted_chain.specs.Chain as chain
use Rattle.cluster_types.specs.Copies.{digests_of}
use Rattle.record_store.specs.Store.{StoreWithRoom, digests_above}
use Rattle.record_store.specs.Copies.{copies_of, versions_of}
use Rattle.record_store.proofs.StoreLaws.{walked}
use Rattle.record_store.proofs.store.RecordStore.walk.Goals as goal

pub returns-in-None : goal.returns-in-None
returns-in-None c =
    let cs = c.self.inside.copies.items in
    let x = c.index-records in
    let place = c.place_of in
    let max = c.args.max in
    IfOk-weaker c.first_digests.result _ _ (λ ds is.
    is
    ∙ walked cs c.self.invariant.0 place.result place.ensures.within x.result.now x.ensures None max _ c.iter_after.ensures
    ∙ ap (λ p. take max
    (digests_above None (digests_of (versions_of (copies_of cs)) p))) place.ensures.same
    ∙ ap (λ (store : StoreWithRoom). take max (digests_above None (digests_of store.versions c.args.p))) c.self.view_is
    ∙ ap (λ (after : Option (Bor (List ℕ))). take max (digests_above (option_copied after) (digests_of c.args.self.now.versions c.args.p))) (sym c.in-None.is)) c.first_digests.ensures

pub returns-in-Some : goal.returns-in-Some
returns-in-Some c =
    let cs = c.self.inside.copies.items in
    let x = c.index-records in
    let place = c.place_of in
    let max = c.args.max in
    let d = c.in-Some.d.now in
    IfOk-weaker c.first_digests-in-Some.result _ _ (λ ds is.
    is
    ∙ walked cs c.self.invariant.0 place.result place.ensures.within x.result.now x.ensures (Some d) max _ (c.iter_after-in-Some.ensures ∙ ap (λ k. chain.above (Some k) x.result.now.items) c.bytes.ensures.same)
    ∙ ap (λ p. take max (digests_above (Some d) (digests_of (versions_of (copies_of cs)) p))) place.ensures.same
    ∙ ap (λ (store : StoreWithRoom). take max (digests_above (Some d) (digests_of store.versions c.args.p))) c.self.view_is
    ∙ ap (λ (after : Option (Bor (List ℕ))). take max (digests_above (option_copied after) (digests_of c.args.self.now.versions c.args.p))) (sym c.in-Some.is)) c.first_digests-in-Some.ensures
