use Rattle.std.proofs.Common.{◌≡◌, ◌<◌, ◌-◌, ◌^◌, ℕ, Option, Some, refl, sym, subst}
use Rattle.std.specs.Prelude.{IsSome}
use Rattle.std.specs.HashMap as hash
use Rattle.std.proofs.lemmas.Result.{on_ok_weaker}
use Rattle.audit_state.specs.declared.views.View.{View}
use Rattle.audit_core.specs.Known.{kept_view}
use Rattle.audit_core.specs.Settling.{stand_from}
use Rattle.audit_state.specs.Keys.{pair_eq}
use Rattle.audit_state.specs.OpenWrites.{OpensWrite}
use Rattle.audit_core.proofs.ViewLaws.{changed}
use Rattle.audit_core.proofs.judge.Judge.open_in_view.Goals as goal

pub returns-in-Some : goal.returns-in-Some
returns-in-Some c =
    let there : kept_view c.args.self.now c.args.view ≡ Some c.in-Some.view.now =
    subst (λ (q : ℕ × ℕ). hash.get pair_eq c.args.self.now.views q ≡ Some c.in-Some.view.now) c.key_pair.ensures (sym c.in-Some.ensures.value) in
    on_ok_weaker c.open_write.result
    (λ done. changed (OpensWrite c.args.node c.args.transaction c.args.p) c.args.view c.args.self.now _ c.in-Some.view.now c.open_write.new.self refl there
    (subst (λ (q : ℕ × ℕ). hash.Updates pair_eq c.args.self.now.views (c.get_mut.follows.lender c.open_write.new.self) q (Some c.open_write.new.self)) c.key_pair.ensures
    ((c.get_mut.follows.holds c.open_write.new.self).3 (subst (λ (o : Option View). IsSome o) c.in-Some.ensures.value refl)))
    done)
    c.open_write.ensures.opens

pub open_write-requires : goal.open_write-requires
open_write-requires c =
    let there : kept_view c.args.self.now c.args.view ≡ Some c.in-Some.view.now =
    subst (λ (q : ℕ × ℕ). hash.get pair_eq c.args.self.now.views q ≡ Some c.in-Some.view.now) c.key_pair.ensures (sym c.in-Some.ensures.value) in
    record { room = subst (λ (o : Option View). (stand_from o c.args.p).open_writes < 2 ^ 64 - 1) there c.requires.room }
