use Rattle.std.proofs.Common.{◌≡◌, ◌<◌, ◌-◌, ◌++◌, ℕ, List, [], Option, Some, None, length, take, append-nil, append_assoc, refl, sym, ap, ◌∙◌, arith}
use Rattle.std.specs.Prelude.{slice_get}
use Rattle.cluster_types.specs.Copies.{digests_of}
use Rattle.record_store.specs.Store.{digests_above}
use Rattle.record_store.proofs.WalkLaws.{digests_rise}
use Rattle.emigrate.proofs.CollectLaws.{fewer_left, none_left, page_and_left}
use Rattle.emigrate.proofs.collect.add_copy.Goals as goal

pub returns-in_default : goal.returns-in_default
returns-in_default c =
    let ds = digests_of c.args.store.now.versions c.args.p in
    let page : c.as_slice.result.now ≡ take 1024 (digests_above c.loop-page.last ds) =
    c.as_slice.ensures ∙ c.in_ok-page.ensures ∙ ap (λ (o : Option (List ℕ)). take 1024 (digests_above o ds)) c.as_ref.ensures.value in
    let some : 0 < 1024 = omega arith in
    let none : slice_get c.as_slice.result.now (length c.as_slice.result.now - 1) ≡ None = sym c.in_default.ensures.value in
    sym (append-nil c.loop-page.digests.items)
    ∙ ap (λ (xs : List (List ℕ)). c.loop-page.digests.items ++ xs) (sym (none_left c.loop-page.last ds c.as_slice.result.now 1024 some page none))
    ∙ c.loop-page.invariant

pub loop-page-smaller : goal.loop-page-smaller
loop-page-smaller c =
    let ds = digests_of c.args.store.now.versions c.args.p in
    let page : c.as_slice.result.now ≡ take 1024 (digests_above c.loop-page.last ds) =
    c.as_slice.ensures ∙ c.in_ok-page.ensures ∙ ap (λ (o : Option (List ℕ)). take 1024 (digests_above o ds)) c.as_ref.ensures.value in
    let read : slice_get c.as_slice.result.now (length c.as_slice.result.now - 1) ≡ Some c.in-Some.digest.now = sym c.in-Some.ensures.value in
    fewer_left c.loop-page.last ds c.as_slice.result.now 1024 c.in-Some.digest.now (digests_rise c.args.store.now.versions c.args.p) page read

pub loop-page-preserved : goal.loop-page-preserved
loop-page-preserved c =
    let ds = digests_of c.args.store.now.versions c.args.p in
    let page : c.as_slice.result.now ≡ take 1024 (digests_above c.loop-page.last ds) =
    c.as_slice.ensures ∙ c.in_ok-page.ensures ∙ ap (λ (o : Option (List ℕ)). take 1024 (digests_above o ds)) c.as_ref.ensures.value in
    let read : slice_get c.as_slice.result.now (length c.as_slice.result.now - 1) ≡ Some c.in-Some.digest.now = sym c.in-Some.ensures.value in
    let same : c.as_slice-in-loop-page.result.now ≡ c.as_slice.result.now = c.as_slice-in-loop-page.ensures ∙ sym c.as_slice.ensures in
    ap (λ (xs : List (List ℕ)). xs ++ digests_above (Some c.in-Some.digest.now) ds) c.in_ok-extend_from_slice.ensures.items
    ∙ append_assoc c.loop-page.digests.items c.as_slice-in-loop-page.result.now (digests_above (Some c.in-Some.digest.now) ds)
    ∙ ap (λ (xs : List (List ℕ)). c.loop-page.digests.items ++ (xs ++ digests_above (Some c.in-Some.digest.now) ds)) same
    ∙ ap (λ (xs : List (List ℕ)). c.loop-page.digests.items ++ xs) (page_and_left c.loop-page.last ds c.as_slice.result.now 1024 c.in-Some.digest.now (digests_rise c.args.store.now.versions c.args.p) page read)
    ∙ c.loop-page.invariant
