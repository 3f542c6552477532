use Rattle.std.proofs.Common.{◌≡◌, ◌↔◌, Bool, false, refl, sym, subst, ◌∙◌, arith}
use Rattle.std.specs.Prelude.{IsTrue}
use Rattle.audit_core.specs.Audits.{so_far}
use Rattle.audit_core.specs.Sees.{IsBound}
use Rattle.audit_laws.proofs.Tests.{differ}
use Rattle.audit_core.proofs.BoundLaws.{unbound, bound_then, bound_else}
use Rattle.audit_core.proofs.judge.Judge.is_bound.Goals as goal

pub returns-in-None : goal.returns-in-None
returns-in-None c = λ i h stands. (λ q. differ q refl, λ bound. absurd (unbound c.args.self.now i c.args.view c.args.p h (sym c.master.ensures ∙ c.in-None.is) bound))

pub returns-then-is_in_view : goal.returns-then-is_in_view
returns-then-is_in_view c = λ i h stands. bound_then c.args.self.now i c.args.view c.args.p c.in-Some.master c.is_settled_by.result h stands (sym c.master.ensures ∙ c.in-Some.is) (c.is_in_view.ensures.0 (grind (arith, c.if-is_in_view.true))) c.is_settled_by.ensures

pub returns-else-is_in_view : goal.returns-else-is_in_view
returns-else-is_in_view c = λ i h stands.
    let off : c.is_in_view.result ≡ false = grind (arith, c.if-is_in_view.false) in
    subst (λ (b : Bool). IsTrue b ↔ IsBound c.args.view c.args.p (so_far c.args.self.now i)) (sym off)
    (bound_else c.args.self.now i c.args.view c.args.p c.in-Some.master h (sym c.master.ensures ∙ c.in-Some.is) (λ q. differ (c.is_in_view.ensures.1 q) off))
