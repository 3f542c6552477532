use Rattle.std.proofs.Common.{sym, ◌∙◌}
use Rattle.audit_core.proofs.ShownLaws.{acting_told}
use Rattle.audit_core.proofs.judge.Judge.acting.Goals as goal

pub returns-clause-acting : goal.returns-clause-acting
returns-clause-acting c =
    acting_told c.args.self.now c.args.view c.args.p c.in-Some.known.now c.as_slice.result.now c.deref.result.now c.first_newest.result (sym c.in-Some.ensures)
    (c.as_slice.ensures.same ∙ c.list-list.ensures) (λ i h. c.deref.ensures.value ∙ c.in_ok-wholes.ensures.wholes i h) c.first_newest.ensures
