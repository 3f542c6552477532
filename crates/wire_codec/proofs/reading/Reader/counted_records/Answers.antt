use Rattle.std.proofs.Common.{◌≡◌, suc, ◌+◌, ◌-◌, None, arith, sym, subst, ◌∙◌}
use Rattle.std.proofs.lemmas.Result.{err_from_is_err_and}
use Rattle.wire_messages.specs.Fields.{items_at}
use Rattle.wire_codec.specs.Reading.{Fails}
use Rattle.wire_messages.specs.Versions.{record_at, with_record}
use Rattle.wire_codec.proofs.Loops.{items_more, items_fail, items_done, record_any}
use Rattle.wire_codec.proofs.reading.Reader.counted_records.Goals as goal

pub returns-in_err-digest : goal.returns-in_err-digest
returns-in_err-digest c =
    let p = err_from_is_err_and c.from_residual.result c.from_residual.ensures.1 in
    let k = c.args.count - (c.loop.counter + 1) in
    let total = items_at record_at with_record c.args.count None c.args.self.now.rest.now in
    rw (p.1, p.2) (items_fail record_at with_record c.loop.records c.in_err-digest.field-0.0 (c.args.count - c.loop.counter) k c.loop.before c.loop.self.rest.now total (omega (arith, c.loop-test.true)) (subst (Fails c.in_err-digest.field-0.0) (sym (record_any c.loop.before k c.loop.self.rest.now)) c.in_err-digest.ensures) c.loop.invariant)

pub loop-preserved : goal.loop-preserved
loop-preserved c =
    let k = c.args.count - (c.loop.counter + 1) in
    let is : c.args.count - c.loop.counter ≡ suc k = omega (arith, c.loop-test.true) in
    let total = items_at record_at with_record c.args.count None c.args.self.now.rest.now in
    let read = record_any c.loop.before k c.loop.self.rest.now ∙ c.in_ok-digest.ensures in
    rw c.in_ok-push.ensures.ok (items_more record_at with_record c.loop.records (c.in_ok-digest.digest, c.in_ok-digest.version) (c.args.count - c.loop.counter) k c.loop.before c.loop.self.rest.now c.record.new.self.rest.now total is read c.loop.invariant)

pub returns : goal.returns
returns c =
    let total = items_at record_at with_record c.args.count None c.args.self.now.rest.now in
    items_done record_at with_record c.loop.records (c.args.count - c.loop.counter) c.loop.before c.loop.self.rest.now total (omega (arith, c.loop-test.false)) c.loop.invariant
