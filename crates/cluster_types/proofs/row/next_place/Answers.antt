use Rattle.std.proofs.Common.{arith}
use Rattle.cluster_types.proofs.RowPlaces.{first_at, none_before_first, none_before_next}
use Rattle.cluster_types.proofs.row.next_place.Goals as goal

pub returns-then-rest-ne0-clause-none_before : goal.returns-then-rest-ne0-clause-none_before
returns-then-rest-ne0-clause-none_before c =
    let first = first_at c.args.bytes.now c.loop-p.p c.from.result c.requires c.loop-p-test.true c.from.ensures c.if-rest-ne0.true in
    none_before_first c.args.bytes.now c.args.from c.loop-p.p _ first c.loop-p.invariant.none_before

pub returns-then-rest-ne0-clause-set : goal.returns-then-rest-ne0-clause-set
returns-then-rest-ne0-clause-set c within =
    let first = first_at c.args.bytes.now c.loop-p.p c.from.result c.requires c.loop-p-test.true c.from.ensures c.if-rest-ne0.true in
    (omega (arith, c.loop-p.invariant.above), first.set)

pub loop-p-preserved : goal.loop-p-preserved
loop-p-preserved c = record {
  above = omega (arith, c.loop-p.invariant.above);
  none_before = none_before_next c.args.bytes.now c.args.from c.loop-p.p c.from.result c.loop-p-test.true c.from.ensures c.if-rest-ne0.false c.loop-p.invariant.none_before;
}
