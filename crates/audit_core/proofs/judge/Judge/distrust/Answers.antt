use Rattle.std.proofs.Common.{◌≡◌, ℕ, Option, Some, refl, sym, subst}
use Rattle.std.specs.Prelude.{IsSome}
use Rattle.std.specs.HashMap as hash
use Rattle.std.proofs.lemmas.Result.{on_ok_weaker}
use Rattle.audit_state.specs.declared.views.View.{View}
use Rattle.audit_core.specs.Known.{kept_view}
use Rattle.audit_state.specs.Keys.{pair_eq}
use Rattle.audit_state.specs.OpenWrites.{Distrusts}
use Rattle.audit_core.proofs.ViewLaws.{changed}
use Rattle.audit_core.proofs.judge.Judge.distrust.Goals as goal

pub returns-in-Some : goal.returns-in-Some
returns-in-Some c =
    let there : kept_view c.args.self.now c.args.view ≡ Some c.in-Some.view.now =
    subst (λ (q : ℕ × ℕ). hash.get pair_eq c.args.self.now.views q ≡ Some c.in-Some.view.now) c.key_pair.ensures (sym c.in-Some.ensures.value) in
    on_ok_weaker c.distrust.result
    (λ done. changed (Distrusts c.args.p) c.args.view c.args.self.now _ c.in-Some.view.now c.distrust.new.self refl there
    (subst (λ (q : ℕ × ℕ). hash.Updates pair_eq c.args.self.now.views (c.get_mut.follows.lender c.distrust.new.self) q (Some c.distrust.new.self)) c.key_pair.ensures
    ((c.get_mut.follows.holds c.distrust.new.self).3 (subst (λ (o : Option View). IsSome o) c.in-Some.ensures.value refl)))
    done)
    c.distrust.ensures.distrusts
