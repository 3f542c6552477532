use Rattle.std.proofs.Common.{◌≡◌, ◌-◌, ◌<◌, subst, ◌∙◌, arith}
use Rattle.std.specs.Prelude.{vec_capacity, vec_len}
use Rattle.immigrate.proofs.BatchLaws.{on_ok}
use Rattle.node_rules.specs.Stamps.{with_number}
use Rattle.node_view.specs.Writes.{IsGapFor, IsTablePlaceOf}
use Rattle.node_view.proofs.TableLaws.{put_ascends, put_gap, put_place}
use Rattle.node_view.proofs.WriteLaws.{heard_gap, heard_place, room_known, room_new}
use Rattle.node_view.proofs.writes.hear_at.Goals as goal

pub put_at-requires-clause-room : goal.put_at-requires-clause-room
put_at-requires-clause-room c =
    let es = c.args.numbers.now.items in
    let gap : IsGapFor c.args.p es c.in-Err.place = subst (λ ts. IsGapFor c.args.p ts c.in-Err.place) c.deref.ensures.value c.in-Err.ensures in
    let room = room_new es c.args.p c.in-Err.place (vec_capacity c.args.numbers.now - vec_len c.args.numbers.now) c.args.first gap c.requires.room in
    omega (arith, room.numbers)

pub returns-in-Ok-clause-ascending : goal.returns-in-Ok-clause-ascending
returns-in-Ok-clause-ascending c =
    let es = c.args.numbers.now.items in
    let here : IsTablePlaceOf c.args.p es c.in-Ok.place = subst (λ ts. IsTablePlaceOf c.args.p ts c.in-Ok.place) c.deref.ensures.value c.in-Ok.ensures in
    put_ascends c.args.p c.take.new.self es _ c.requires.ascending (put_place c.args.p c.take.new.self es c.in-Ok.place c.index_mut.result.now c.requires.ascending here c.index_mut.ensures.value)

pub returns-in-Ok-clause-numbers : goal.returns-in-Ok-clause-numbers
returns-in-Ok-clause-numbers c =
    let es = c.args.numbers.now.items in
    let here : IsTablePlaceOf c.args.p es c.in-Ok.place = subst (λ ts. IsTablePlaceOf c.args.p ts c.in-Ok.place) c.deref.ensures.value c.in-Ok.ensures in
    let some : 0 < c.index_mut.result.now.1.spare = room_known es c.args.p c.in-Ok.place (vec_capacity c.args.numbers.now - vec_len c.args.numbers.now) c.index_mut.result.now c.args.first c.requires.ascending here c.index_mut.ensures.value c.requires.room in
    let more : c.take.new.self.numbers ≡ with_number c.index_mut.result.now.1.numbers c.args.nth = on_ok c.take.result _ c.take.ensures.ok (c.take.ensures.reserved some) in
    heard_place es c.args.p c.in-Ok.place c.args.nth c.index_mut.result.now c.take.new.self c.requires.ascending here c.index_mut.ensures.value more

pub returns-in-Err-clause-ascending : goal.returns-in-Err-clause-ascending
returns-in-Err-clause-ascending c =
    let es = c.args.numbers.now.items in
    let gap : IsGapFor c.args.p es c.in-Err.place = subst (λ ts. IsGapFor c.args.p ts c.in-Err.place) c.deref.ensures.value c.in-Err.ensures in
    put_ascends c.args.p c.take-in-Err.new.self es c.put_at.new.entries.items c.requires.ascending (c.put_at.ensures ∙ put_gap c.args.p c.take-in-Err.new.self es c.in-Err.place gap)

pub returns-in-Err-clause-numbers : goal.returns-in-Err-clause-numbers
returns-in-Err-clause-numbers c =
    let es = c.args.numbers.now.items in
    let gap : IsGapFor c.args.p es c.in-Err.place = subst (λ ts. IsGapFor c.args.p ts c.in-Err.place) c.deref.ensures.value c.in-Err.ensures in
    let room = room_new es c.args.p c.in-Err.place (vec_capacity c.args.numbers.now - vec_len c.args.numbers.now) c.args.first gap c.requires.room in
    let more : c.take-in-Err.new.self.numbers ≡ with_number c.args.first.numbers c.args.nth = on_ok c.take-in-Err.result _ c.take-in-Err.ensures.ok (c.take-in-Err.ensures.reserved room.spare) in
    heard_gap es c.put_at.new.entries.items c.args.p c.in-Err.place c.args.nth c.args.first c.take-in-Err.new.self gap c.put_at.ensures room.none more
