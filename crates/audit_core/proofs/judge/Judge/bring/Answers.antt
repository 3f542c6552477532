use Rattle.std.proofs.Common.{◌∙◌}
use Rattle.std.proofs.lemmas.Result.{on_ok_weaker}
use Rattle.audit_core.proofs.BroughtLaws.{passes, stores, at_most_said, one_more}
use Rattle.audit_core.proofs.judge.Judge.bring.Goals as goal

pub returns-then-at_most-clause-sees : goal.returns-then-at_most-clause-sees
returns-then-at_most-clause-sees c = λ l d v here sees. one_more c.args.self.now c.args.line (passes c.args.self.now c.args.line c.args.node c.args.number c.args.p l d v here sees
    (at_most_said c.args.self.now c.versions.result c.args.line c.args.node c.args.number c.content.result c.at_most.result c.versions.ensures.lines c.versions.ensures.policy c.content.ensures c.at_most.ensures ∙ c.if-at_most.true))

pub returns-clause-sees : goal.returns-clause-sees
returns-clause-sees c = on_ok_weaker c.store.result
    (λ stored l d v here sees. one_more c.store.new.self c.args.line (stores c.args.self.now c.args.line c.args.node c.args.number c.args.p l d v here sees c.store.new.self stored
    (at_most_said c.args.self.now c.versions.result c.args.line c.args.node c.args.number c.content.result c.at_most.result c.versions.ensures.lines c.versions.ensures.policy c.content.ensures c.at_most.ensures ∙ c.if-at_most.false)))
    c.store.ensures.stores
