use Rattle.std.proofs.Common.{◌∙◌, Option, ap}
use Rattle.audit_state.specs.declared.views.View.{View}
use Rattle.audit_core.specs.Folds.{folded}
use Rattle.audit_core.proofs.FoldLaws.{fold_known}
use Rattle.audit_core.proofs.judge.Judge.fold.Goals as goal

pub returns-in-None-clause-said : goal.returns-in-None-clause-said
returns-in-None-clause-said c = ap (λ (o : Option View). folded c.args.self.now o c.args.number) c.in-None.ensures

pub returns-in-None-clause-reads : goal.returns-in-None-clause-reads
returns-in-None-clause-reads c = λ i d x known named. ap (λ (o : Option View). folded c.args.self.now o c.args.number) c.in-None.ensures ∙ fold_known c.args.self.now i c.args.view x c.args.number d known named

pub returns-in-Some-clause-said : goal.returns-in-Some-clause-said
returns-in-Some-clause-said c = c.fold_in.ensures ∙ ap (λ (o : Option View). folded c.args.self.now o c.args.number) c.in-Some.ensures

pub returns-in-Some-clause-reads : goal.returns-in-Some-clause-reads
returns-in-Some-clause-reads c = λ i d x known named. c.fold_in.ensures ∙ (ap (λ (o : Option View). folded c.args.self.now o c.args.number) c.in-Some.ensures ∙ fold_known c.args.self.now i c.args.view x c.args.number d known named)
