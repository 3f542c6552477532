use Rattle.std.proofs.Common.{arith}
use Rattle.audit_core.proofs.FoldLaws.{fold_step}
use Rattle.audit_core.proofs.judge.Judge.fold_in.Goals as goal

pub loop-m-preserved : goal.loop-m-preserved
loop-m-preserved c = fold_step c.args.self.now c.versions.result c.args.view.now c.args.number _ c.as_slice-m-items.result.now c.loop-m.m-index c.m-item.result c.loop-m.fold c.join-fold.result c.entry_content.result
    (omega (arith, c.loop-m-test.true)) c.m-item.is c.versions.ensures.lines c.versions.ensures.policy c.entry_content.ensures c.loop-m.invariant c.join-fold.ensures
