use Rattle.std.proofs.Common.{sym, ap, ◌∙◌, arith}
use Rattle.std.specs.FinMap.{get}
use Rattle.record_store.specs.Store.{StoreWithRoom}
use Rattle.record_store.specs.StampList.{shown_stamp, stamps_of}
use Rattle.record_store.proofs.StampLaws.{get_stamps}
use Rattle.record_store.proofs.store.RecordStore.stamp_at.Goals as goal

pub returns : goal.returns
returns c =
    let ss = c.self.inside.stamps.items in
    let s = c.index.result.now in
    let place = c.place_of in
    ap shown_stamp c.index.ensures
    ∙ sym (get_stamps ss place.result s (omega (arith, place.ensures.within, c.self.invariant.1)))
    ∙ ap (get (stamps_of ss)) place.ensures.same
    ∙ ap (λ (store : StoreWithRoom). get store.stamps c.args.p) c.self.view_is
