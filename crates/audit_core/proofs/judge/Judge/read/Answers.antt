use Rattle.std.proofs.lemmas.Result.{on_ok_weaker}
use Rattle.audit_core.proofs.PassLaws.{read_takes, read_breaks, if_err_then}
use Rattle.audit_core.proofs.judge.Judge.read.Goals as goal

pub returns-clause-ok : goal.returns-clause-ok
returns-clause-ok c =
    on_ok_weaker c.demand.result (λ e. read_takes c.args.self.now c.args.view c.args.digest.now c.args.found.now c.is_fold.result e c.is_fold.ensures) c.demand.ensures.ok

pub returns-clause-err : goal.returns-clause-err
returns-clause-err c =
    if_err_then c.demand.result _ _ (λ x h. read_breaks c.args.self.now c.args.view c.args.digest.now c.args.found.now c.is_fold.result x h.0 h.1 c.is_fold.ensures) c.demand.ensures.err
