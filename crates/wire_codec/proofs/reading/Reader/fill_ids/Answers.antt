use Rattle.std.proofs.Common.{◌≡◌, ◌<◌, suc, ◌+◌, ◌-◌, None, length, take, arith}
use Rattle.std.proofs.lemmas.List.{take_more_set}
use Rattle.std.proofs.lemmas.Result.{err_from_is_err_and}
use Rattle.wire_messages.specs.Fields.{items_at}
use Rattle.wire_messages.specs.Nodes.{any_id_at, with_any_id}
use Rattle.wire_codec.specs.declared.reading.ReadFault.TheVariants.{Field}
use Rattle.wire_codec.proofs.Loops.{items_more, items_fail, items_filled}
use Rattle.wire_codec.proofs.reading.Reader.fill_ids.Goals as goal

pub returns-in_err-id : goal.returns-in_err-id
returns-in_err-id c =
    let p = err_from_is_err_and c.from_residual.result c.from_residual.ensures.1 in
    let n = length c.args.ids.now in
    let k = n - (c.loop-i.i + 1) in
    rw (p.1, p.2) (items_fail any_id_at with_any_id (take c.loop-i.i c.loop-i.ids) (Field c.in_err-id.field-0.0) (n - c.loop-i.i) k None c.loop-i.self.rest.now (items_at any_id_at with_any_id n None c.args.self.now.rest.now) (omega (arith, c.loop-i-test.true)) c.in_err-id.ensures c.loop-i.invariant)

pub loop-i-preserved : goal.loop-i-preserved
loop-i-preserved c =
    let n = length c.args.ids.now in
    let k = n - (c.loop-i.i + 1) in
    let id = c.in_ok-id.id in
    let within : c.loop-i.i < length c.loop-i.ids = omega (arith, c.loop-i-test.true, c.loop-i.auto.ids) in
    let is : n - c.loop-i.i ≡ suc k = omega (arith, c.loop-i-test.true) in
    rw (take_more_set c.loop-i.ids c.loop-i.i id within)
    (items_more any_id_at with_any_id (take c.loop-i.i c.loop-i.ids) id (n - c.loop-i.i) k None c.loop-i.self.rest.now c.id.new.self.rest.now (items_at any_id_at with_any_id n None c.args.self.now.rest.now) is c.in_ok-id.ensures c.loop-i.invariant)

pub returns : goal.returns
returns c =
    let n = length c.args.ids.now in
    items_filled any_id_at with_any_id c.loop-i.ids c.loop-i.i (n - c.loop-i.i) None c.loop-i.self.rest.now (items_at any_id_at with_any_id n None c.args.self.now.rest.now) (omega (arith, c.loop-i-test.false)) (omega (arith, c.loop-i-test.false, c.loop-i.auto.ids)) c.loop-i.invariant
