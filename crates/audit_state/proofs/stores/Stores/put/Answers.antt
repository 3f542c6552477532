use Rattle.std.proofs.Common.{sym, subst}
use Rattle.std.proofs.lemmas.Result.{on_ok_weaker}
use Rattle.audit_state.specs.Histories.{AreUpTo}
use Rattle.audit_state.proofs.StoreLaws.{histories_back}
use Rattle.audit_state.proofs.stores.Stores.put.Goals as goal

pub put-requires : goal.put-requires
put-requires c = subst (AreUpTo c.args.line) (sym c.take_history-history.ensures.history) c.requires

pub returns-clause-contents : goal.returns-clause-contents
returns-clause-contents c = on_ok_weaker c.put_history.result
    (λ back. histories_back c.args.self.now c.take_history-history.new.self c.put_history.new.self c.args.node c.args.number c.put.new.self c.take_history-history.result (record { line = c.args.line; value = c.args.place })
    c.take_history-history.ensures.others back c.take_history-history.ensures.history c.in_ok-put.ensures.ok)
    c.put_history.ensures.history
