use Rattle.std.proofs.Common.{arith}
use Rattle.request_rules.specs.Passing.{leaves}
use Rattle.node_requests.proofs.ListLaws.{any_here, any_on}
use Rattle.node_requests.proofs.leaving.any_leaves.Goals as goal

pub returns-then-leaves_at : goal.returns-then-leaves_at
returns-then-leaves_at c =
    any_here (leaves c.args.node) c.args.lines.now c.loop-i.i c.leaves_at.result (omega (arith, c.loop-i-test.true, c.len-i-end.ensures)) c.leaves_at.ensures c.if-leaves_at.true c.loop-i.invariant

pub loop-i-preserved : goal.loop-i-preserved
loop-i-preserved c =
    any_on (leaves c.args.node) c.args.lines.now c.loop-i.i c.leaves_at.result (omega (arith, c.loop-i-test.true, c.len-i-end.ensures)) c.leaves_at.ensures c.if-leaves_at.false c.loop-i.invariant
