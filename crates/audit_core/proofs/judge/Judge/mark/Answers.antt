use Rattle.std.proofs.Common.{◌≡◌, ℕ, Option, Some, refl, sym, ap₂, subst}
use Rattle.std.specs.Prelude.{IsSome}
use Rattle.std.specs.HashMap as hash
use Rattle.audit_state.specs.declared.stamps.Stamps.{Stamps}
use Rattle.audit_state.specs.Keys.{pair_eq}
use Rattle.audit_core.specs.Known.{stamps_at}
use Rattle.audit_core.proofs.CopyStampLaws.{marks_there, stamps_marked}
use Rattle.audit_core.proofs.judge.Judge.mark.Goals as goal

pub put-requires : goal.put-requires
put-requires c =
    let copy : (c.number.result, c.number-2.result) ≡ (c.args.node, c.args.p) = ap₂ (λ (a b : ℕ). (a, b)) c.number.ensures.same c.number-2.ensures.same in
    let there : stamps_at c.open_stamps.new.self c.args.node c.args.p ≡ Some c.in-Some.stamps.now =
    subst (λ (q : ℕ × ℕ). hash.get pair_eq c.open_stamps.new.self.stamps q ≡ Some c.in-Some.stamps.now) copy (sym c.in-Some.ensures.value) in
    marks_there c.args.node c.args.p c.args.line c.args.self.now c.open_stamps.new.self c.in-Some.stamps.now c.in_ok-open_stamps.ensures there c.requires

pub returns-in_ok-put : goal.returns-in_ok-put
returns-in_ok-put c =
    let marked : Stamps = record c.in-Some.stamps.now { marks = c.put.new.self } in
    let copy : (c.number.result, c.number-2.result) ≡ (c.args.node, c.args.p) = ap₂ (λ (a b : ℕ). (a, b)) c.number.ensures.same c.number-2.ensures.same in
    let there : stamps_at c.open_stamps.new.self c.args.node c.args.p ≡ Some c.in-Some.stamps.now =
    subst (λ (q : ℕ × ℕ). hash.get pair_eq c.open_stamps.new.self.stamps q ≡ Some c.in-Some.stamps.now) copy (sym c.in-Some.ensures.value) in
    stamps_marked c.args.node c.args.p c.args.line c.args.place c.args.self.now c.open_stamps.new.self _ c.in-Some.stamps.now marked c.in_ok-open_stamps.ensures refl there
    (subst (λ (q : ℕ × ℕ). hash.Updates pair_eq c.open_stamps.new.self.stamps (c.get_mut.follows.lender marked) q (Some marked)) copy
    ((c.get_mut.follows.holds marked).3 (subst (λ (o : Option Stamps). IsSome o) c.in-Some.ensures.value refl)))
    c.in_ok-put.ensures.ok refl refl
