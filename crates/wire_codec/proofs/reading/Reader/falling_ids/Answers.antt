use Rattle.std.proofs.Common.{◌≡◌, None, suc, ◌+◌, ◌-◌, length, length-append, arith, ap}
use Rattle.std.proofs.lemmas.Result.{err_from_is_err_and}
use Rattle.wire_messages.specs.Nodes.{falling_id_at, with_id, falling_ids_at}
use Rattle.wire_codec.specs.declared.reading.ReadFault.TheVariants.{Field}
use Rattle.wire_codec.proofs.Loops.{items_start, items_more, items_fail, items_done}
use Rattle.wire_codec.proofs.Lowest.{none_lowest, lowest_more, lowest_new, id_follows}
use Rattle.wire_codec.proofs.Orders.{falling_ids_fall}
use Rattle.wire_codec.proofs.reading.Reader.falling_ids.Goals as goal

pub loop-init : goal.loop-init
unfolding falling_ids_at
loop-init c = record {
  so_far = items_start falling_id_at with_id c.new-ids.result (c.args.count - 0) c.args.count None c.args.self.now.rest.now c.new-ids.ensures (omega arith);
  len = ap length c.new-ids.ensures;
  lowest = rw c.new-ids.ensures none_lowest;
}

pub returns-in_err-id-clause-reads : goal.returns-in_err-id-clause-reads
returns-in_err-id-clause-reads c =
    let p = err_from_is_err_and c.from_residual.result c.from_residual.ensures.1 in
    let k = c.args.count - (c.loop.counter + 1) in
    rw (p.1, p.2) (items_fail falling_id_at with_id c.loop.ids (Field c.in_err-id.field-0.0) (c.args.count - c.loop.counter) k c.loop.before c.loop.self.rest.now (falling_ids_at c.args.count c.args.self.now.rest.now) (omega (arith, c.loop-test.true)) c.in_err-id.ensures c.loop.invariant.so_far)

pub push-requires-clause-new : goal.push-requires-clause-new
push-requires-clause-new c = lowest_new c.loop.before c.loop.ids c.in_ok-id.id c.loop.invariant.lowest (id_follows c.loop.before c.loop.self.rest.now c.in_ok-id.id c.id_below.new.self.rest.now c.in_ok-id.ensures)

pub loop-preserved : goal.loop-preserved
loop-preserved c =
    let k = c.args.count - (c.loop.counter + 1) in
    let is : c.args.count - c.loop.counter ≡ suc k = omega (arith, c.loop-test.true) in
    record {
      so_far = rw c.push.ensures (items_more falling_id_at with_id c.loop.ids c.in_ok-id.id (c.args.count - c.loop.counter) k c.loop.before c.loop.self.rest.now c.id_below.new.self.rest.now (falling_ids_at c.args.count c.args.self.now.rest.now) is c.in_ok-id.ensures c.loop.invariant.so_far);
      len = grind (arith, length-append, c.push.ensures, c.loop.invariant.len);
      lowest = rw c.push.ensures (lowest_more c.loop.before c.loop.ids c.in_ok-id.id c.loop.invariant.lowest (id_follows c.loop.before c.loop.self.rest.now c.in_ok-id.id c.id_below.new.self.rest.now c.in_ok-id.ensures));
    }

pub returns-clause-reads : goal.returns-clause-reads
returns-clause-reads c = items_done falling_id_at with_id c.loop.ids (c.args.count - c.loop.counter) c.loop.before c.loop.self.rest.now (falling_ids_at c.args.count c.args.self.now.rest.now) (omega (arith, c.loop-test.false)) c.loop.invariant.so_far

pub returns-clause-order : goal.returns-clause-order
returns-clause-order c = (falling_ids_fall c.args.count c.args.self.now.rest.now c.loop.ids c.loop.self.rest.now (returns-clause-reads c)).1
