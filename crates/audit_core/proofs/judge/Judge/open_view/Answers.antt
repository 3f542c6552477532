use Rattle.std.proofs.Common.{◌≡◌, ℕ, false, Some, None, refl, subst, arith}
use Rattle.std.specs.HashMap as hash
use Rattle.audit_state.specs.Keys.{pair_eq}
use Rattle.audit_core.specs.Known.{kept_view}
use Rattle.audit_core.proofs.ViewLaws.{missing, opened}
use Rattle.audit_core.proofs.judge.Judge.open_view.Goals as goal

pub returns-in_ok-insert : goal.returns-in_ok-insert
returns-in_ok-insert c =
    let absent : c.contains_key.result ≡ false = grind (arith, c.if-not-contains_key.true) in
    let none : kept_view c.args.self.now c.args.key ≡ None =
    subst (λ (q : ℕ × ℕ). hash.get pair_eq c.args.self.now.views q ≡ None) c.key_pair.ensures (missing _ c.contains_key.result c.contains_key.ensures absent) in
    opened c.args.key c.args.members c.args.self.now _ c.new.result refl none c.new.ensures
    (subst (λ (q : ℕ × ℕ). hash.Updates pair_eq c.args.self.now.views c.insert.new.self q (Some c.new.result)) c.key_pair-then-not-contains_key.ensures c.in_ok-insert.ensures.updates)
