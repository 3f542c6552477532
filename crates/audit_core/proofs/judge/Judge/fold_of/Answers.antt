use Rattle.std.proofs.Common.{sym}
use Rattle.audit_core.proofs.FoldLaws.{fold_unknown, fold_found}
use Rattle.audit_core.proofs.judge.Judge.fold_of.Goals as goal

pub returns-in-None : goal.returns-in-None
returns-in-None c = λ i x known. fold_unknown c.args.self.now i c.args.view x c.args.digest.now known (sym c.in-None.ensures)

pub returns-in-Some : goal.returns-in-Some
returns-in-Some c = λ i x known. fold_found c.args.self.now i c.args.view x c.args.digest.now c.in-Some.number c.versions.result c.fold.result _ known (sym c.in-Some.ensures) c.versions.ensures.lines c.fold.ensures.said c.found.ensures
