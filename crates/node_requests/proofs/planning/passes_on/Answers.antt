use Rattle.std.proofs.Common.{arith}
use Rattle.node_requests.specs.Planned.{passes_on}
use Rattle.node_requests.proofs.ListLaws.{any_here, any_on}
use Rattle.node_requests.proofs.planning.passes_on.Goals as goal

pub returns-then-passes_on_at : goal.returns-then-passes_on_at
returns-then-passes_on_at c =
    any_here passes_on c.args.lines.now c.loop-i.i c.passes_on_at.result (omega (arith, c.loop-i-test.true, c.len-i-end.ensures)) c.passes_on_at.ensures c.if-passes_on_at.true c.loop-i.invariant

pub loop-i-preserved : goal.loop-i-preserved
loop-i-preserved c =
    any_on passes_on c.args.lines.now c.loop-i.i c.passes_on_at.result (omega (arith, c.loop-i-test.true, c.len-i-end.ensures)) c.passes_on_at.ensures c.if-passes_on_at.false c.loop-i.invariant
