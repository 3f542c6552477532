use Rattle.std.proofs.Common.{◌≡◌, ℕ, Option, Some, refl, sym, subst}
use Rattle.std.specs.Prelude.{IsSome}
use Rattle.std.specs.HashMap as hash
use Rattle.audit_state.specs.declared.views.View.{View}
use Rattle.audit_state.specs.Keys.{pair_eq}
use Rattle.audit_core.specs.Steps.{HasExchanged}
use Rattle.audit_core.proofs.ViewLaws.{changed}
use Rattle.audit_core.proofs.judge.Judge.finish_in_view.Goals as goal

pub returns-in_ok-push : goal.returns-in_ok-push
returns-in_ok-push c =
    let noted : View = record c.in-Some.view.now { exchanged = c.push.new.self } in
    changed (HasExchanged c.args.node) c.args.key c.args.self.now _ c.in-Some.view.now noted refl
    (subst (λ (q : ℕ × ℕ). hash.get pair_eq c.args.self.now.views q ≡ Some c.in-Some.view.now) c.key_pair.ensures (sym c.in-Some.ensures.value))
    (subst (λ (q : ℕ × ℕ). hash.Updates pair_eq c.args.self.now.views (c.get_mut.follows.lender noted) q (Some noted)) c.key_pair.ensures
    ((c.get_mut.follows.holds noted).3 (subst (λ (o : Option View). IsSome o) c.in-Some.ensures.value refl)))
    (record {
      key = refl;
      members = refl;
      ranks = refl;
      entered = refl;
      exchanged = c.in_ok-push.ensures.items;
      written = record { applied = refl; written = refl; settled = refl; writes = refl; partitions = refl };
    })
