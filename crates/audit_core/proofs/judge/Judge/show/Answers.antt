use Rattle.std.proofs.lemmas.Result.{on_ok_weaker}
use Rattle.audit_core.proofs.PassLaws.{show_takes, show_breaks, if_err_then}
use Rattle.audit_core.proofs.judge.Judge.show.Goals as goal

pub returns-clause-ok : goal.returns-clause-ok
returns-clause-ok c =
    on_ok_weaker c.demand.result (λ e. show_takes c.args.self.now c.shows_map.new.self c.args.view c.args.p c.args.acting c.args.members.now c.in_ok-shown.shown e
    c.in_ok-shown.ensures.keeps c.in_ok-shown.ensures.audits c.in_ok-shown.ensures.shown) c.demand.ensures.ok

pub returns-clause-err : goal.returns-clause-err
returns-clause-err c =
    if_err_then c.demand.result _ _ (λ x h. show_breaks c.args.self.now c.args.view c.args.p c.args.acting c.args.members.now c.in_ok-shown.shown x h.0 h.1 c.in_ok-shown.ensures.shown) c.demand.ensures.err
