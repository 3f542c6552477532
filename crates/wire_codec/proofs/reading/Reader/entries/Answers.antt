use Rattle.std.proofs.Common.{◌≡◌, suc, ◌+◌, ◌-◌, None, arith, sym, subst, ◌∙◌}
use Rattle.std.proofs.lemmas.Result.{err_from_is_err_and}
use Rattle.wire_messages.specs.Fields.{items_at}
use Rattle.wire_codec.specs.Reading.{Fails}
use Rattle.wire_messages.specs.Rows.{entry_at, with_entry}
use Rattle.wire_codec.proofs.Highest.{none_highest, highest_above, highest_more, entry_any}
use Rattle.wire_codec.specs.declared.reading.ReadFault.TheVariants.{Field}
use Rattle.wire_codec.proofs.Loops.{items_start, items_more, items_fail, items_done}
use Rattle.wire_codec.proofs.reading.Reader.entries.Goals as goal

pub loop-init : goal.loop-init
loop-init c = record {
  so_far = items_start entry_at with_entry c.new-row.result (c.args.count - 0) c.args.count None c.args.self.now.rest.now c.new-row.ensures (omega arith);
  highest = rw c.new-row.ensures none_highest;
}

pub returns-in_err-partition : goal.returns-in_err-partition
returns-in_err-partition c =
    let p = err_from_is_err_and c.from_residual.result c.from_residual.ensures.1 in
    let k = c.args.count - (c.loop.counter + 1) in
    let total = items_at entry_at with_entry c.args.count None c.args.self.now.rest.now in
    rw (p.1, p.2) (items_fail entry_at with_entry c.loop.row (Field c.in_err-partition.field-0.0) (c.args.count - c.loop.counter) k c.loop.before c.loop.self.rest.now total (omega (arith, c.loop-test.true)) (subst (Fails (Field c.in_err-partition.field-0.0)) (sym (entry_any c.loop.before k c.loop.self.rest.now)) c.in_err-partition.ensures.reads) c.loop.invariant.so_far)

pub add-requires-clause-above : goal.add-requires-clause-above
add-requires-clause-above c = highest_above c.loop.before c.loop.row c.in_ok-partition.partition c.loop.invariant.highest c.in_ok-partition.ensures.above

pub loop-preserved : goal.loop-preserved
loop-preserved c =
    let k = c.args.count - (c.loop.counter + 1) in
    let is : c.args.count - c.loop.counter ≡ suc k = omega (arith, c.loop-test.true) in
    let total = items_at entry_at with_entry c.args.count None c.args.self.now.rest.now in
    let p = c.in_ok-partition.partition in
    let s = c.in_ok-partition.state in
    let read = entry_any c.loop.before k c.loop.self.rest.now ∙ c.in_ok-partition.ensures.reads in
    record {
      so_far = rw c.in_ok-add.ensures.ok (items_more entry_at with_entry c.loop.row (p, s) (c.args.count - c.loop.counter) k c.loop.before c.loop.self.rest.now c.entry.new.self.rest.now total is read c.loop.invariant.so_far);
      highest = rw c.in_ok-add.ensures.ok (highest_more c.loop.before c.loop.row p s c.loop.invariant.highest c.in_ok-partition.ensures.above);
    }

pub returns : goal.returns
returns c =
    let total = items_at entry_at with_entry c.args.count None c.args.self.now.rest.now in
    items_done entry_at with_entry c.loop.row (c.args.count - c.loop.counter) c.loop.before c.loop.self.rest.now total (omega (arith, c.loop-test.false)) c.loop.invariant.so_far
