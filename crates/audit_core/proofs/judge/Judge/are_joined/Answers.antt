use Rattle.std.proofs.Common.{ℕ, List, sym, ap, ◌∙◌}
use Rattle.std.specs.Prelude.{take}
use Rattle.std.specs.List.{list_all}
use Rattle.audit_core.specs.Trying.{joins_at}
use Rattle.audit_core.proofs.JoinedLaws.{joined_so, parted_so, joined_none}
use Rattle.audit_core.proofs.judge.Judge.are_joined.Goals as goal

pub returns-in-None-clause-joined : goal.returns-in-None-clause-joined
returns-in-None-clause-joined c = λ e. joined_none c.args.self.now c.args.view c.args.number c.args.p (sym c.in-None.ensures)

pub returns-in-Some-clause-joined : goal.returns-in-Some-clause-joined
returns-in-Some-clause-joined c = λ e. joined_so c.args.self.now c.args.view c.args.number c.args.p c.in-Some.known.now c.fold-fold.result c.are_joined_at.result (sym c.in-Some.ensures) c.fold-fold.ensures.said
    (c.are_joined_at.ensures ∙ ap (λ (ns : List ℕ). list_all (joins_at c.args.self.now c.args.view c.args.number c.fold-fold.result) (take c.args.self.now.factor ns)) (c.as_slice.ensures.same ∙ c.list.ensures)) e

pub returns-in-Some-clause-parted : goal.returns-in-Some-clause-parted
returns-in-Some-clause-parted c = λ e. parted_so c.args.self.now c.args.view c.args.number c.args.p c.in-Some.known.now c.fold-fold.result c.are_joined_at.result (sym c.in-Some.ensures) c.fold-fold.ensures.said
    (c.are_joined_at.ensures ∙ ap (λ (ns : List ℕ). list_all (joins_at c.args.self.now c.args.view c.args.number c.fold-fold.result) (take c.args.self.now.factor ns)) (c.as_slice.ensures.same ∙ c.list.ensures)) e
