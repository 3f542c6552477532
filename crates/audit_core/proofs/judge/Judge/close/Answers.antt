use Rattle.std.proofs.Common.{◌≡◌, ℕ, Option, Some, refl, sym, subst}
use Rattle.std.specs.Prelude.{IsSome, IfOk}
use Rattle.std.specs.HashMap as hash
use Rattle.std.proofs.lemmas.Result.{on_ok_weaker}
use Rattle.audit_state.specs.declared.views.View.{View}
use Rattle.audit_core.specs.Known.{kept_view}
use Rattle.audit_core.specs.Settling.{open_from}
use Rattle.audit_state.specs.Keys.{pair_eq}
use Rattle.audit_state.specs.OpenWrites.{FinishesWrites}
use Rattle.audit_core.proofs.ViewLaws.{changed}
use Rattle.audit_core.proofs.judge.Judge.close.Goals as goal

pub returns-in-Some-clause-finishes : goal.returns-in-Some-clause-finishes
returns-in-Some-clause-finishes c =
    let there : kept_view c.args.self.now c.args.view ≡ Some c.in-Some.view.now =
    subst (λ (q : ℕ × ℕ). hash.get pair_eq c.args.self.now.views q ≡ Some c.in-Some.view.now) c.key_pair.ensures (sym c.in-Some.ensures.value) in
    on_ok_weaker c.finish_writes.result
    (λ done. changed (FinishesWrites c.args.node c.args.transaction) c.args.view c.args.self.now _ c.in-Some.view.now c.finish_writes.new.self refl there
    (subst (λ (q : ℕ × ℕ). hash.Updates pair_eq c.args.self.now.views (c.get_mut.follows.lender c.finish_writes.new.self) q (Some c.finish_writes.new.self)) c.key_pair.ensures
    ((c.get_mut.follows.holds c.finish_writes.new.self).3 (subst (λ (o : Option View). IsSome o) c.in-Some.ensures.value refl)))
    done)
    c.finish_writes.ensures.finishes

pub returns-in-Some-clause-ended : goal.returns-in-Some-clause-ended
returns-in-Some-clause-ended c =
    let there : kept_view c.args.self.now c.args.view ≡ Some c.in-Some.view.now =
    subst (λ (q : ℕ × ℕ). hash.get pair_eq c.args.self.now.views q ≡ Some c.in-Some.view.now) c.key_pair.ensures (sym c.in-Some.ensures.value) in
    subst (λ (o : Option View). IfOk c.finish_writes.result (λ ended. ended.items ≡ open_from o c.args.node c.args.transaction)) (sym there) c.finish_writes.ensures.ended
