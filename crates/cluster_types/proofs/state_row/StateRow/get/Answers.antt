use Rattle.std.proofs.Common.{sym, ap, ◌∙◌}
use Rattle.cluster_types.specs.StateRows.{state_of}
use Rattle.cluster_types.proofs.StateRowLaws.{state_at, state_missing}
use Rattle.cluster_types.proofs.state_row.StateRow.get.Goals as goal

pub returns-in-Some : goal.returns-in-Some
returns-in-Some c =
    let row = c.self.inside.entries.items in
    let found = rw c.deref.ensures.value at c.in-Some.ensures.found in
    ap (λ e. e.1) c.index.ensures
    ∙ sym (state_at row c.in-Some.i c.args.p c.index.result.now c.self.invariant.rising found.in_row (found.entry c.index.result.now))
    ∙ ap (λ r. state_of r c.args.p) c.self.view_is

pub returns-in-None : goal.returns-in-None
returns-in-None c =
    let row = c.self.inside.entries.items in
    let missing = rw c.deref.ensures.value at c.in-None.ensures.missing in
    sym (state_missing row c.args.p missing) ∙ ap (λ r. state_of r c.args.p) c.self.view_is
