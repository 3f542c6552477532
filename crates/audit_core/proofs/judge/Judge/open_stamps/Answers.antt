use Rattle.std.proofs.Common.{◌≡◌, ℕ, false, Some, None, refl, ap₂, subst, arith}
use Rattle.std.specs.HashMap as hash
use Rattle.audit_state.specs.Keys.{pair_eq}
use Rattle.audit_core.specs.Known.{stamps_at}
use Rattle.audit_core.proofs.CopyStampLaws.{stamps_opened}
use Rattle.audit_core.proofs.ViewLaws.{missing}
use Rattle.audit_core.proofs.judge.Judge.open_stamps.Goals as goal

pub returns-in_ok-insert : goal.returns-in_ok-insert
returns-in_ok-insert c =
    let absent : c.contains_key.result ≡ false = grind (arith, c.if-not-contains_key.true) in
    let copy : (c.number.result, c.number-2.result) ≡ (c.args.node, c.args.p) = ap₂ (λ (a b : ℕ). (a, b)) c.number.ensures.same c.number-2.ensures.same in
    let none : stamps_at c.args.self.now c.args.node c.args.p ≡ None =
    subst (λ (q : ℕ × ℕ). hash.get pair_eq c.args.self.now.stamps q ≡ None) copy (missing _ c.contains_key.result c.contains_key.ensures absent) in
    stamps_opened c.args.node c.args.p c.args.self.now _ c.new.result refl none c.new.ensures
    (subst (λ (q : ℕ × ℕ). hash.Updates pair_eq c.args.self.now.stamps c.insert.new.self q (Some c.new.result)) copy c.in_ok-insert.ensures.updates)
