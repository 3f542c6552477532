use Rattle.std.proofs.Common.{◌-◌, ◌<◌, subst, arith}
use Rattle.std.specs.Prelude.{vec_capacity, vec_len}
use Rattle.node_view.specs.Writes.{IsGapFor, IsTablePlaceOf}
use Rattle.node_view.proofs.TableLaws.{put_ascends, put_place}
use Rattle.node_view.proofs.WriteLaws.{heard_kept, room_first, room_kept}
use Rattle.node_view.proofs.writes.reserve_at.Goals as goal

pub returns-in_err-reserve-in-Ok-clause-ascending : goal.returns-in_err-reserve-in-Ok-clause-ascending
returns-in_err-reserve-in-Ok-clause-ascending c =
    let es = c.args.numbers.now.items in
    let here : IsTablePlaceOf c.args.p es c.in-Ok.place = subst (λ ts. IsTablePlaceOf c.args.p ts c.in-Ok.place) c.deref.ensures.value c.in-Ok.ensures in
    put_ascends c.args.p c.reserve.new.self es _ c.requires (put_place c.args.p c.reserve.new.self es c.in-Ok.place c.index_mut.result.now c.requires here c.index_mut.ensures.value)

pub returns-in_err-reserve-in-Ok-clause-same : goal.returns-in_err-reserve-in-Ok-clause-same
returns-in_err-reserve-in-Ok-clause-same c =
    let es = c.args.numbers.now.items in
    let here : IsTablePlaceOf c.args.p es c.in-Ok.place = subst (λ ts. IsTablePlaceOf c.args.p ts c.in-Ok.place) c.deref.ensures.value c.in-Ok.ensures in
    heard_kept es c.in-Ok.place c.index_mut.result.now c.reserve.new.self here.within c.index_mut.ensures.value c.reserve.ensures.same

pub returns-in_ok-reserve-in-Ok-clause-ascending : goal.returns-in_ok-reserve-in-Ok-clause-ascending
returns-in_ok-reserve-in-Ok-clause-ascending c =
    let es = c.args.numbers.now.items in
    let here : IsTablePlaceOf c.args.p es c.in-Ok.place = subst (λ ts. IsTablePlaceOf c.args.p ts c.in-Ok.place) c.deref.ensures.value c.in-Ok.ensures in
    put_ascends c.args.p c.reserve.new.self es _ c.requires (put_place c.args.p c.reserve.new.self es c.in-Ok.place c.index_mut.result.now c.requires here c.index_mut.ensures.value)

pub returns-in_ok-reserve-in-Ok-clause-same : goal.returns-in_ok-reserve-in-Ok-clause-same
returns-in_ok-reserve-in-Ok-clause-same c =
    let es = c.args.numbers.now.items in
    let here : IsTablePlaceOf c.args.p es c.in-Ok.place = subst (λ ts. IsTablePlaceOf c.args.p ts c.in-Ok.place) c.deref.ensures.value c.in-Ok.ensures in
    heard_kept es c.in-Ok.place c.index_mut.result.now c.reserve.new.self here.within c.index_mut.ensures.value c.reserve.ensures.same

pub returns-in_ok-reserve-in-Ok-clause-room : goal.returns-in_ok-reserve-in-Ok-clause-room
returns-in_ok-reserve-in-Ok-clause-room c =
    let es = c.args.numbers.now.items in
    let here : IsTablePlaceOf c.args.p es c.in-Ok.place = subst (λ ts. IsTablePlaceOf c.args.p ts c.in-Ok.place) c.deref.ensures.value c.in-Ok.ensures in
    room_kept es c.args.p c.in-Ok.place _ c.index_mut.result.now c.reserve.new.self c.new.result c.requires here c.index_mut.ensures.value c.in_ok-reserve-in-Ok.ensures.enough

pub returns-in_ok-reserve-in-Err-clause-room : goal.returns-in_ok-reserve-in-Err-clause-room
returns-in_ok-reserve-in-Err-clause-room c =
    let es = c.args.numbers.now.items in
    let gap : IsGapFor c.args.p es c.in-Err.field-0 = subst (λ ts. IsGapFor c.args.p ts c.in-Err.field-0) c.deref.ensures.value c.in-Err.ensures in
    let some : 0 < vec_capacity c.reserve-in-Err.new.self - vec_len c.reserve-in-Err.new.self = omega (arith, c.in_ok-reserve-in-Err.ensures.ok) in
    room_first es c.reserve-in-Err.new.self.items c.args.p c.in-Err.field-0 _ c.seen_with_room.result gap c.reserve-in-Err.ensures.items some c.seen_with_room.ensures.none c.seen_with_room.ensures.room
