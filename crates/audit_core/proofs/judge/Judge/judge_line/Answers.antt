use Rattle.std.proofs.Common.{◌≡◌, ◌<◌, ◌+◌, ◌^◌, ℕ, Option, Some, refl, sym, ap, ap₂, subst}
use Rattle.std.specs.Prelude.{IsSome}
use Rattle.std.specs.HashMap as hash
use Rattle.audit_state.specs.declared.stamps.Stamps.{Stamps}
use Rattle.audit_state.specs.Histories.{AreUpTo}
use Rattle.audit_state.specs.Keys.{pair_eq}
use Rattle.audit_core.specs.Known.{stamps_at}
use Rattle.audit_state.specs.Stamps.{judged_of, wholes_of}
use Rattle.audit_core.proofs.CopyStampLaws.{stamps_judged_so}
use Rattle.audit_core.proofs.judge.Judge.judge_line.Goals as goal

pub judge-requires-clause-behind : goal.judge-requires-clause-behind
judge-requires-clause-behind c =
    let copy : (c.number.result, c.number-2.result) ≡ (c.args.node, c.args.p) = ap₂ (λ (a b : ℕ). (a, b)) c.number.ensures.same c.number-2.ensures.same in
    let there : stamps_at c.args.self.now c.args.node c.args.p ≡ Some c.in-Some.stamps.now =
    subst (λ (q : ℕ × ℕ). hash.get pair_eq c.args.self.now.stamps q ≡ Some c.in-Some.stamps.now) copy (sym c.in-Some.ensures.value) in
    subst (AreUpTo c.args.line) (ap wholes_of there) c.requires.behind

pub judge-requires-clause-room : goal.judge-requires-clause-room
judge-requires-clause-room c =
    let copy : (c.number.result, c.number-2.result) ≡ (c.args.node, c.args.p) = ap₂ (λ (a b : ℕ). (a, b)) c.number.ensures.same c.number-2.ensures.same in
    let there : stamps_at c.args.self.now c.args.node c.args.p ≡ Some c.in-Some.stamps.now =
    subst (λ (q : ℕ × ℕ). hash.get pair_eq c.args.self.now.stamps q ≡ Some c.in-Some.stamps.now) copy (sym c.in-Some.ensures.value) in
    subst (λ (i : ℕ). i + 1 < 2 ^ 64) (ap judged_of there) c.requires.room

pub returns-in_ok-judge : goal.returns-in_ok-judge
returns-in_ok-judge c =
    let copy : (c.number.result, c.number-2.result) ≡ (c.args.node, c.args.p) = ap₂ (λ (a b : ℕ). (a, b)) c.number.ensures.same c.number-2.ensures.same in
    let there : stamps_at c.args.self.now c.args.node c.args.p ≡ Some c.in-Some.stamps.now =
    subst (λ (q : ℕ × ℕ). hash.get pair_eq c.args.self.now.stamps q ≡ Some c.in-Some.stamps.now) copy (sym c.in-Some.ensures.value) in
    stamps_judged_so c.args.node c.args.p c.args.line _ c.makes_whole-whole.result c.args.self.now _ c.in-Some.stamps.now c.judge.new.self c.makes_whole-whole.ensures refl there
    (subst (λ (q : ℕ × ℕ). hash.Updates pair_eq c.args.self.now.stamps (c.get_mut.follows.lender c.judge.new.self) q (Some c.judge.new.self)) copy
    ((c.get_mut.follows.holds c.judge.new.self).3 (subst (λ (o : Option Stamps). IsSome o) c.in-Some.ensures.value refl)))
    c.in_ok-judge.ensures.marks c.in_ok-judge.ensures.judged c.in_ok-judge.ensures.wholes
