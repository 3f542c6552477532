use Rattle.std.proofs.Common.{ℕ, true, Option, refl, sym, subst, ◌∙◌}
use Rattle.audit_state.specs.Stores.{changes_of}
use Rattle.audit_core.specs.Replicas.{TellsNoMoreSince}
use Rattle.audit_core.proofs.judge.Judge.holds_no_more.Goals as goal

pub returns-in-None : goal.returns-in-None
returns-in-None c = subst (λ (o : Option ℕ). TellsNoMoreSince c.args.self.now c.args.view c.args.node o (changes_of c.args.self.now.stores c.args.node c.args.p) true) (sym c.in-None.is ∙ c.entry.ensures) refl

pub returns-in-Some : goal.returns-in-Some
returns-in-Some c = subst (λ (o : Option ℕ). TellsNoMoreSince c.args.self.now c.args.view c.args.node o (changes_of c.args.self.now.stores c.args.node c.args.p) c.holds_no_more_since.result) (sym c.in-Some.is ∙ c.entry.ensures) c.holds_no_more_since.ensures
