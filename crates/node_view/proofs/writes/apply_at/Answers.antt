use Rattle.std.proofs.Common.{◌<◌, subst, arith}
use Rattle.node_view.specs.Counts.{greatest_count}
use Rattle.node_view.specs.Writes.{IsGapFor, IsTablePlaceOf}
use Rattle.node_view.proofs.TableLaws.{put_ascends}
use Rattle.node_view.proofs.WriteLaws.{applied_at, applied_gap, applied_place}
use Rattle.node_view.proofs.writes.apply_at.Goals as goal

pub overflow_add-index_mut : goal.overflow_add-index_mut
overflow_add-index_mut c =
    let es = c.args.applies.now.items in
    let here : IsTablePlaceOf c.args.p es c.in-Ok.place = subst (λ ts. IsTablePlaceOf c.args.p ts c.in-Ok.place) c.deref.ensures.value c.in-Ok.ensures in
    let few : c.index_mut.result.now.1 < greatest_count = applied_at es c.args.p c.in-Ok.place c.index_mut.result.now greatest_count c.requires.ascending here c.index_mut.ensures.value c.requires.count in
    omega (arith, few)

pub returns-in-Ok-clause-ascending : goal.returns-in-Ok-clause-ascending
returns-in-Ok-clause-ascending c =
    let es = c.args.applies.now.items in
    let here : IsTablePlaceOf c.args.p es c.in-Ok.place = subst (λ ts. IsTablePlaceOf c.args.p ts c.in-Ok.place) c.deref.ensures.value c.in-Ok.ensures in
    put_ascends c.args.p _ es _ c.requires.ascending (applied_place es c.args.p c.in-Ok.place c.index_mut.result.now c.requires.ascending here c.index_mut.ensures.value)

pub returns-in-Ok-clause-applies : goal.returns-in-Ok-clause-applies
returns-in-Ok-clause-applies c =
    let es = c.args.applies.now.items in
    let here : IsTablePlaceOf c.args.p es c.in-Ok.place = subst (λ ts. IsTablePlaceOf c.args.p ts c.in-Ok.place) c.deref.ensures.value c.in-Ok.ensures in
    applied_place es c.args.p c.in-Ok.place c.index_mut.result.now c.requires.ascending here c.index_mut.ensures.value

pub returns-in-Err-clause-ascending : goal.returns-in-Err-clause-ascending
returns-in-Err-clause-ascending c =
    let es = c.args.applies.now.items in
    let gap : IsGapFor c.args.p es c.in-Err.place = subst (λ ts. IsGapFor c.args.p ts c.in-Err.place) c.deref.ensures.value c.in-Err.ensures in
    put_ascends c.args.p _ es _ c.requires.ascending (applied_gap es c.put_at.new.entries.items c.args.p c.in-Err.place gap c.put_at.ensures)

pub returns-in-Err-clause-applies : goal.returns-in-Err-clause-applies
returns-in-Err-clause-applies c =
    let es = c.args.applies.now.items in
    let gap : IsGapFor c.args.p es c.in-Err.place = subst (λ ts. IsGapFor c.args.p ts c.in-Err.place) c.deref.ensures.value c.in-Err.ensures in
    applied_gap es c.put_at.new.entries.items c.args.p c.in-Err.place gap c.put_at.ensures
