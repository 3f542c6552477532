use Rattle.std.proofs.Common.{◌≡◌, ◌<◌, ℕ, Option, Some, refl, sym, subst}
use Rattle.std.specs.Prelude.{IsSome, IfOk}
use Rattle.std.specs.HashMap as hash
use Rattle.std.proofs.lemmas.Result.{on_ok_weaker}
use Rattle.audit_state.specs.declared.views.View.{View}
use Rattle.audit_core.specs.Known.{kept_view}
use Rattle.audit_core.specs.Settling.{stand_from}
use Rattle.audit_state.specs.Keys.{pair_eq}
use Rattle.audit_state.specs.OpenWrites.{EndsWrite, IsToTry}
use Rattle.audit_core.proofs.ViewLaws.{changed}
use Rattle.audit_core.proofs.judge.Judge.count_out.Goals as goal

pub returns-in-Some-clause-ends : goal.returns-in-Some-clause-ends
returns-in-Some-clause-ends c =
    let there : kept_view c.args.self.now c.args.view ≡ Some c.in-Some.view.now =
    subst (λ (q : ℕ × ℕ). hash.get pair_eq c.args.self.now.views q ≡ Some c.in-Some.view.now) c.key_pair.ensures (sym c.in-Some.ensures.value) in
    on_ok_weaker c.end_write.result
    (λ done. changed (EndsWrite c.args.p) c.args.view c.args.self.now _ c.in-Some.view.now c.end_write.new.self refl there
    (subst (λ (q : ℕ × ℕ). hash.Updates pair_eq c.args.self.now.views (c.get_mut.follows.lender c.end_write.new.self) q (Some c.end_write.new.self)) c.key_pair.ensures
    ((c.get_mut.follows.holds c.end_write.new.self).3 (subst (λ (o : Option View). IsSome o) c.in-Some.ensures.value refl)))
    done)
    c.end_write.ensures.ends

pub returns-in-Some-clause-doubts : goal.returns-in-Some-clause-doubts
returns-in-Some-clause-doubts c =
    let there : kept_view c.args.self.now c.args.view ≡ Some c.in-Some.view.now =
    subst (λ (q : ℕ × ℕ). hash.get pair_eq c.args.self.now.views q ≡ Some c.in-Some.view.now) c.key_pair.ensures (sym c.in-Some.ensures.value) in
    subst (λ (o : Option View). IfOk c.end_write.result (λ doubts. IsToTry (stand_from o c.args.p) doubts)) (sym there) c.end_write.ensures.doubts

pub end_write-requires : goal.end_write-requires
end_write-requires c =
    let there : kept_view c.args.self.now c.args.view ≡ Some c.in-Some.view.now =
    subst (λ (q : ℕ × ℕ). hash.get pair_eq c.args.self.now.views q ≡ Some c.in-Some.view.now) c.key_pair.ensures (sym c.in-Some.ensures.value) in
    subst (λ (o : Option View). 0 < (stand_from o c.args.p).open_writes) there c.requires
