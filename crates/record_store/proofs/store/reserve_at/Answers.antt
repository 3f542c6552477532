use Rattle.std.proofs.Common.{◌≤◌, subst, sym}
use Rattle.std.proofs.Math.Seq.{map-set_same}
use Rattle.conflict_order.specs.declared.version.Version.{Version}
use Rattle.sorted_chain.specs.Chain.{Chain}
use Rattle.record_store.proofs.RoomLaws.{room_set, keeps_at, never_less, enough_room}
use Rattle.record_store.proofs.store.reserve_at.Goals as goal

pub returns-clause-same : goal.returns-clause-same
returns-clause-same c = map-set_same (λ (chain : Chain Version). chain.items) c.args.copies.now c.args.place c.reserve.new.self c.index-copies-place.result c.reserve.ensures.items

pub returns-clause-kept : goal.returns-clause-kept
returns-clause-kept c =
    let x = c.index-copies-place in
    let y = c.reserve.new.self in
    keeps_at c.args.copies.now c.args.place c.requires x.result x.is y
    (subst (λ (chain : Chain Version). chain.spare ≤ y.spare) (sym x.is) (never_less c.reserve.result _ y.spare c.reserve.ensures.kept c.reserve.ensures.unchanged))

pub returns-clause-enough : goal.returns-clause-enough
returns-clause-enough c =
    let x = c.index-copies-place in
    enough_room c.reserve.result c.args.n _ _ (room_set c.args.copies.now c.args.place c.requires x.result x.is c.reserve.new.self) c.reserve.ensures.enough
