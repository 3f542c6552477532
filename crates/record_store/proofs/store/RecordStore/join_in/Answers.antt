use Rattle.std.proofs.Common.{rules, ◌≡◌, is_some, slice_set, sym, ap, subst, ◌∙◌}
use Rattle.std.proofs.lemmas.Bool.{false≢true}
use Rattle.std.specs.FinMap.{find, put, get, insert}
use Rattle.record_store.specs.Store.{StoreWithRoom, UsesRoom}
use Rattle.record_store.specs.Copies.{rooms_of}
use Rattle.record_store.proofs.CopyLaws.{digest_cmp, joined_newer, joined_kept}
use Rattle.record_store.proofs.RoomLaws.{uses_at}
use Rattle.record_store.proofs.StoreLaws.{chain_within, held, took, is_newer_of, is_not_newer_of, lowered}
use Rattle.record_store.proofs.store.RecordStore.join_in.Goals as goal

pub returns-in_err-put-in-Newer-clause-held : goal.returns-in_err-put-in-Newer-clause-held
returns-in_err-put-in-Newer-clause-held c some =
    let d = c.args.d in
    let place = c.place_of in
    let of = place.ensures.same ∙ c.partition_of.ensures in
    let x = c.index_mut.result.now in
    let found : find digest_cmp c.bytes.result.now x.items ≡ get c.args.self.now.versions d
    = ap (λ k. find digest_cmp k x.items) c.bytes.ensures.same
    ∙ held c.self.inside.copies.items c.self.invariant.0 place.result place.ensures.within x c.index_mut.ensures.value d of
    ∙ ap (λ (store : StoreWithRoom). get store.versions d) c.self.view_is in
    absurd (false≢true (c.in_err-put-in-Newer.ensures.present (ap is_some found ∙ some)))

pub invariant_of-self-in-Newer : goal.invariant_of-self-in-Newer
invariant_of-self-in-Newer c =
    let d = c.args.d in
    let v = c.args.v in
    let place = c.place_of in
    let of = place.ensures.same ∙ c.partition_of.ensures in
    let x = c.index_mut.result.now in
    let made = took c.self.inside.copies.items c.self.invariant.0 place.result place.ensures.within x c.index_mut.ensures.value c.put.new.self d v of (c.in_ok-put-in-Newer.ensures.items ∙ ap (λ k. put digest_cmp k v x.items) c.bytes.ensures.same) in
    (made.copies, c.self.invariant.1)

pub returns-in_ok-put-in-Newer-clause-joined : goal.returns-in_ok-put-in-Newer-clause-joined
returns-in_ok-put-in-Newer-clause-joined c =
    let d = c.args.d in
    let v = c.args.v in
    let place = c.place_of in
    let of = place.ensures.same ∙ c.partition_of.ensures in
    let x = c.index_mut.result.now in
    let made = took c.self.inside.copies.items c.self.invariant.0 place.result place.ensures.within x c.index_mut.ensures.value c.put.new.self d v of (c.in_ok-put-in-Newer.ensures.items ∙ ap (λ k. put digest_cmp k v x.items) c.bytes.ensures.same) in
    made.versions
    ∙ ap (λ (store : StoreWithRoom). insert store.versions d v) c.self.view_is
    ∙ joined_newer c.args.self.now.by c.args.self.now.versions d v (is_newer_of _ _ _ (sym c.would_join.ensures ∙ c.in-Newer.is))

pub returns-in_ok-put-in-Newer-clause-room : goal.returns-in_ok-put-in-Newer-clause-room
returns-in_ok-put-in-Newer-clause-room c =
    let cs = c.self.inside.copies.items in
    let place = c.place_of in
    let of = place.ensures.same ∙ c.partition_of.ensures in
    let x = c.index_mut.result.now in
    let y = c.put.new.self in
    let uses = uses_at cs place.result (chain_within cs c.self.invariant.0 place.result place.ensures.within x c.index_mut.ensures.value) x c.index_mut.ensures.value y (lowered _ x.spare y.spare c.in_ok-put-in-Newer.ensures.spare) in
    subst (λ p. UsesRoom p c.args.self.now.spare (rooms_of (slice_set cs place.result y))) of (subst (λ (store : StoreWithRoom). UsesRoom place.result store.spare (rooms_of (slice_set cs place.result y))) c.self.view_is uses)

pub returns-in-Kept-clause-joined : goal.returns-in-Kept-clause-joined
returns-in-Kept-clause-joined c = joined_kept c.args.self.now.by c.args.self.now.versions c.args.d c.args.v (is_not_newer_of _ _ _ (sym c.would_join.ensures ∙ c.in-Kept.is))

pub returns-in-Kept-clause-answer : goal.returns-in-Kept-clause-answer
returns-in-Kept-clause-answer c = search rules
