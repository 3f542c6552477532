use Rattle.std.proofs.Common.{◌≡◌, ℕ, Option, Some, sym, ap, ap₂, subst, ◌∙◌}
use Rattle.std.specs.Prelude.{option_and_then}
use Rattle.std.specs.HashMap as hash
use Rattle.audit_state.specs.declared.stamps.Stamps.{Stamps}
use Rattle.audit_state.specs.Keys.{pair_eq}
use Rattle.audit_core.specs.Known.{stamps_at}
use Rattle.audit_state.specs.Stamps.{stamping_key_at, stamped_key}
use Rattle.audit_core.proofs.judge.Judge.stamp_at.Goals as goal

pub returns-in-Some : goal.returns-in-Some
returns-in-Some c =
    let copy : (c.number.result, c.number-2.result) ≡ (c.args.node, c.args.p) = ap₂ (λ (a b : ℕ). (a, b)) c.number.ensures.same c.number-2.ensures.same in
    let there : stamps_at c.args.self.now c.args.node c.args.p ≡ Some c.in-Some.stamps.now =
    subst (λ (q : ℕ × ℕ). hash.get pair_eq c.args.self.now.stamps q ≡ Some c.in-Some.stamps.now) copy (sym c.in-Some.ensures.value) in
    c.key_by.ensures ∙ (ap (option_and_then (stamping_key_at c.args.self.now.lines.now)) c.stamp_at.ensures ∙ sym (ap (λ (o : Option Stamps). stamped_key c.args.self.now.lines.now o c.args.lines) there))
