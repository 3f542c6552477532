use Rattle.std.proofs.Common.{sym, ap, ◌∙◌, arith}
use Rattle.cluster_types.specs.Copies.{state_with, state_of_copy, digests_of}
use Rattle.record_store.specs.Store.{StoreWithRoom}
use Rattle.record_store.specs.Copies.{copies_of, rooms_of, versions_of}
use Rattle.record_store.specs.StampList.{shown_stamp, stamps_of}
use Rattle.record_store.proofs.StampLaws.{get_stamps}
use Rattle.record_store.proofs.StoreLaws.{digests_held}
use Rattle.record_store.proofs.store.RecordStore.state.Goals as goal

pub returns : goal.returns
returns c =
    let cs = c.self.inside.copies.items in
    let ss = c.self.inside.stamps.items in
    let x = c.index.result.now in
    let s = c.index-2.result.now in
    let place = c.place_of-place.result in
    let within = c.place_of-place.ensures.within in
    let seen : StoreWithRoom = record { versions = versions_of (copies_of cs); stamps = stamps_of ss; by = c.self.inside.by; spare = rooms_of cs } in
    c.copy_state.ensures
    ∙ ap (λ ds. state_with ds (shown_stamp s)) (sym (digests_held cs c.self.invariant.0 place within x c.index.ensures))
    ∙ ap (state_with (digests_of seen.versions place)) (ap shown_stamp c.index-2.ensures ∙ sym (get_stamps ss place s (omega (arith, within, c.self.invariant.1))))
    ∙ ap (state_of_copy seen.versions seen.stamps) c.place_of-place.ensures.same
    ∙ ap (λ (store : StoreWithRoom). state_of_copy store.versions store.stamps c.args.p) c.self.view_is
