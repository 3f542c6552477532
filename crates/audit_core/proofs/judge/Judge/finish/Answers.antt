use Rattle.std.proofs.Common.{◌+◌, sym, subst, arith, rules, ◌∙◌}
use Rattle.audit_core.proofs.DoneLaws.{finish_first, finish_takes, finish_stops}
use Rattle.audit_core.proofs.FinishLaws.{counts_one, counts_next, counts_stop, counts_all}
use Rattle.audit_core.proofs.TouchLaws.{err_then}
use Rattle.audit_core.proofs.judge.Judge.finish.Goals as goal
use Rattle.audit_core.specs.declared.verdict.Stop.{Stop}
use Rattle.audit_core.specs.Ending.{StopsEnding}

pub loop-p-init : goal.loop-p-init
loop-p-init c =
    finish_first c.args.self.now c.close.new.self c.args.line c.args.node c.args.transaction
    c.args.view c.deref-p-items.result.now c.requires.comes c.in_ok-ended.ensures.finishes
    (c.deref-p-items.ensures.value ∙ c.in_ok-ended.ensures.ended)

pub end_write-requires-clause-open : goal.end_write-requires-clause-open
end_write-requires-clause-open c =
    counts_one
    (c.args.line + 1) c.args.view c.deref-p-items.result.now c.loop-p.p-index c.p-item.result
    c.close.new.self c.loop-p.self c.loop-p-test.true (search rules) c.loop-p.invariant

pub returns-in_err-end_write-clause-err : goal.returns-in_err-end_write-clause-err
returns-in_err-end_write-clause-err c = err_then c.from_residual-in_err-end_write.result _ _
    (λ e is. finish_stops c.args.self.now c.close.new.self c.args.line c.args.node
    c.args.transaction c.args.view e c.requires.comes c.in_ok-ended.ensures.finishes
    (counts_stop
    (c.args.line + 1) c.args.view c.deref-p-items.result.now c.loop-p.p-index c.p-item.result
    c.close.new.self c.loop-p.self e c.loop-p-test.true (search rules) c.loop-p.invariant
    (subst (λ (x : Stop). StopsEnding (c.args.line + 1) c.args.view c.p-item.result c.loop-p.self x)
    (sym is) c.in_err-end_write.ensures.err)))
    c.from_residual-in_err-end_write.ensures.1

pub loop-p-preserved : goal.loop-p-preserved
loop-p-preserved c =
    counts_next
    (c.args.line + 1) c.args.view c.deref-p-items.result.now c.loop-p.p-index c.p-item.result
    c.close.new.self c.loop-p.self c.end_write.new.self c.loop-p-test.true
    (search rules) c.loop-p.invariant c.in_ok-end_write.ensures.ok c.in_ok-end_write.ensures.keeps

pub returns-clause-ok : goal.returns-clause-ok
returns-clause-ok c =
    finish_takes c.args.self.now c.close.new.self c.loop-p.self c.args.line c.args.node
    c.args.transaction c.args.view c.requires.comes c.in_ok-ended.ensures.finishes
    (counts_all
    (c.args.line + 1) c.args.view c.deref-p-items.result.now c.loop-p.p-index c.close.new.self
    c.loop-p.self (omega (arith, c.loop-p-test.false)) c.loop-p.invariant)
