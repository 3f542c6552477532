use Rattle.std.proofs.Common.{sym, ap}
use Rattle.std.specs.Prelude.{is_some}
use Rattle.audit_laws.proofs.Tests.{differ}
use Rattle.audit_core.proofs.ShownLaws.{listed_so}
use Rattle.audit_core.proofs.judge.Judge.shows_list.Goals as goal

pub returns-in-None : goal.returns-in-None
returns-in-None c = λ i h there. differ there (sym (ap is_some c.in-None.ensures))

pub returns-in-Some : goal.returns-in-Some
returns-in-Some c = listed_so c.args.self.now c.args.key c.args.p c.in-Some.view.now c.args.shown.now c.is_list.result (sym c.in-Some.ensures) c.is_list.ensures
