use Rattle.std.proofs.Common.{ℕ, List, Option, ap, ◌∙◌}
use Rattle.std.specs.List.{list_all}
use Rattle.audit_state.specs.declared.views.View.{View}
use Rattle.audit_core.specs.Replicas.{holds_fold, written_from}
use Rattle.audit_core.proofs.judge.Judge.holds_written.Goals as goal

pub returns-in-None : goal.returns-in-None
returns-in-None c = ap (λ (o : Option View). list_all (holds_fold c.args.self.now c.args.view c.args.node) (written_from o c.args.p)) c.in-None.ensures

pub returns-in-Some : goal.returns-in-Some
returns-in-Some c = c.holds_folds.ensures
    ∙ (ap (λ (ns : List ℕ). list_all (holds_fold c.args.self.now c.args.view c.args.node) ns) c.written_of.ensures
    ∙ ap (λ (o : Option View). list_all (holds_fold c.args.self.now c.args.view c.args.node) (written_from o c.args.p)) c.in-Some.ensures)
