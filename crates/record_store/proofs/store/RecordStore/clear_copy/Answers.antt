use Rattle.std.proofs.Common.{◌≡◌, None, slice_set, ap, ◌∙◌, arith, length-set}
use Rattle.std.specs.FinMap.{remove}
use Rattle.cluster_types.specs.Copies.{without_copy}
use Rattle.record_store.specs.Store.{StoreWithRoom}
use Rattle.record_store.specs.Copies.{copies_of, rooms_of, versions_of}
use Rattle.record_store.specs.StampList.{stamps_of}
use Rattle.record_store.proofs.RoomLaws.{same_rooms}
use Rattle.record_store.proofs.StampLaws.{stamps_clear}
use Rattle.record_store.proofs.StoreLaws.{chain_within, cleared}
use Rattle.record_store.proofs.store.RecordStore.clear_copy.Goals as goal

pub invariant_of-self : goal.invariant_of-self
invariant_of-self c =
    let place = c.place_of-place in
    let made = cleared c.self.inside.copies.items c.self.invariant.0 place.result place.ensures.within c.index_mut.result.now c.index_mut.ensures.value c.take_all.new.self c.take_all.ensures.items in
    (made.copies, length-set _ _ _ ∙ c.self.invariant.1)

pub returns : goal.returns
returns c =
    let cs = c.self.inside.copies.items in
    let ss = c.self.inside.stamps.items in
    let place = c.place_of-place in
    let x = c.index_mut.result.now in
    let y = c.take_all.new.self in
    let made = cleared cs c.self.invariant.0 place.result place.ensures.within x c.index_mut.ensures.value y c.take_all.ensures.items in
    let stamps = stamps_clear ss place.result (omega (arith, place.ensures.within, c.self.invariant.1)) in
    let rooms = same_rooms cs place.result (chain_within cs c.self.invariant.0 place.result place.ensures.within x c.index_mut.ensures.value) x c.index_mut.ensures.value y c.take_all.ensures.spare in
    let all : record { versions = versions_of (copies_of (slice_set cs place.result y)); stamps = stamps_of (slice_set ss place.result None); by = c.self.inside.by; spare = rooms_of (slice_set cs place.result y) }
    ≡ record { versions = without_copy (versions_of (copies_of cs)) place.result; stamps = remove (stamps_of ss) place.result; by = c.self.inside.by; spare = rooms_of cs }
    = λ i. record { versions = made.versions i; stamps = stamps i; by = c.self.inside.by; spare = rooms i } in
    all
    ∙ ap (λ p. record { versions = without_copy (versions_of (copies_of cs)) p; stamps = remove (stamps_of ss) p; by = c.self.inside.by; spare = rooms_of cs }) place.ensures.same
    ∙ ap (λ (store : StoreWithRoom). record store { versions = without_copy store.versions c.args.p; stamps = remove store.stamps c.args.p }) c.self.view_is
