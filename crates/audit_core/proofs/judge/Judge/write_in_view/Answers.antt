use Rattle.std.proofs.Common.{◌≡◌, ℕ, List, Option, Some, refl, sym, subst}
use Rattle.std.specs.Prelude.{IsSome}
use Rattle.std.specs.HashMap as hash
use Rattle.std.proofs.lemmas.Result.{on_ok_weaker}
use Rattle.conflict_order.specs.declared.policy.Policy.{Policy}
use Rattle.journal_lines.specs.declared.line.Line.{Line}
use Rattle.audit_state.specs.declared.views.View.{View}
use Rattle.audit_state.specs.Keys.{pair_eq}
use Rattle.audit_state.specs.Written.{WritesRecord}
use Rattle.audit_core.proofs.ViewLaws.{changed}
use Rattle.audit_core.proofs.judge.Judge.write_in_view.Goals as goal

pub returns-in-Some : goal.returns-in-Some
returns-in-Some c = on_ok_weaker c.write.result
    (λ writes. changed (WritesRecord c.args.self.now.by c.args.self.now.lines.now c.args.line c.args.number c.args.p) c.args.view c.args.self.now _ c.in-Some.view.now c.write.new.self refl
    (subst (λ (q : ℕ × ℕ). hash.get pair_eq c.args.self.now.views q ≡ Some c.in-Some.view.now) c.key_pair.ensures (sym c.in-Some.ensures.value))
    (subst (λ (q : ℕ × ℕ). hash.Updates pair_eq c.args.self.now.views (c.get_mut.follows.lender c.write.new.self) q (Some c.write.new.self)) c.key_pair.ensures
    ((c.get_mut.follows.holds c.write.new.self).3 (subst (λ (o : Option View). IsSome o) c.in-Some.ensures.value refl)))
    (subst (λ (by : Policy). WritesRecord by c.args.self.now.lines.now c.args.line c.args.number c.args.p c.in-Some.view.now c.write.new.self) c.versions-versions.ensures.policy
    (subst (λ (ls : List Line). WritesRecord c.versions-versions.result.by ls c.args.line c.args.number c.args.p c.in-Some.view.now c.write.new.self) c.versions-versions.ensures.lines writes)))
    c.write.ensures.writes
