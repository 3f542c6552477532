use Rattle.std.proofs.Common.{◌<◌, ◌+◌, ◌-◌, ◌/◌, ℕ, length, arith}
use Rattle.sorted_chain.specs.Nodes.{pays, entries}
use Rattle.sorted_chain.proofs.MarkLaws.{place_at}
use Rattle.sorted_chain.proofs.NodeLaws.{before_at, here_at, passed_at}
use Rattle.sorted_chain.proofs.marks.Marks.seek.Goals as goal

pub loop-low-preserved-in-Less : goal.loop-low-preserved-in-Less
loop-low-preserved-in-Less g c =
    let b = c.args.nodes.now.boxes in
    let l = c.loop-low in
    let middle : ℕ = l.low + (l.high - l.low) / 2 in
    let within : middle < length (entries (pays b.items)) = omega (arith, l.invariant.order, l.invariant.within, c.loop-low-test.true) in
    record {
      order = omega (arith, l.invariant.order);
      within = omega (arith, within);
      passed = l.invariant.passed;
      above = before_at b.items c.requires.full c.args.k.now c.requires.ascending middle within c.order.result c.order.ensures c.in-Less.is;
      key = l.invariant.key;
      front = l.invariant.front;
    }

pub returns-in-Equal : goal.returns-in-Equal
returns-in-Equal g c =
    let b = c.args.nodes.now.boxes in
    let l = c.loop-low in
    let middle : ℕ = l.low + (l.high - l.low) / 2 in
    let within : middle < length (entries (pays b.items)) = omega (arith, l.invariant.order, l.invariant.within, c.loop-low-test.true) in
    record {
      here = here_at b.items c.requires.full c.args.k.now c.requires.ascending middle within c.order.result c.order.ensures c.in-Equal.is;
      at_is = place_at b.places b.items c.args.self.now.in_order.items c.requires.marks middle c.mark.result c.mark.ensures;
    }

pub loop-low-preserved : goal.loop-low-preserved
loop-low-preserved g c =
    let b = c.args.nodes.now.boxes in
    let l = c.loop-low in
    let middle : ℕ = l.low + (l.high - l.low) / 2 in
    let within : middle < length (entries (pays b.items)) = omega (arith, l.invariant.order, l.invariant.within, c.loop-low-test.true) in
    record {
      order = omega (arith, l.invariant.order, c.loop-low-test.true);
      within = l.invariant.within;
      passed = passed_at b.items c.requires.full c.args.k.now c.requires.ascending middle within c.order.result c.order.ensures c.in-Greater.is;
      above = l.invariant.above;
      key = l.invariant.key;
      front = l.invariant.front;
    }
