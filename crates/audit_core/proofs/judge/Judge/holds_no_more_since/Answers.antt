use Rattle.std.proofs.Common.{◌≡◌, ◌≤◌, true, false, sym, ◌∙◌, arith}
use Rattle.audit_core.specs.Replicas.{holds_change}
use Rattle.audit_core.proofs.CoverageLaws.{passed_next, held_all, more_at}
use Rattle.audit_core.proofs.judge.Judge.holds_no_more_since.Goals as goal

pub loop-i-init : goal.loop-i-init
loop-i-init c = λ a low high. absurd (omega (arith, low, high))

pub loop-i-preserved : goal.loop-i-preserved
loop-i-preserved c =
    let on : c.holds_no_more_at.result ≡ true = grind (arith, c.if-not-holds_no_more_at.false) in
    passed_next (holds_change c.args.self.now c.args.view c.args.node) _ _ c.loop-i.i c.loop-i.invariant (sym c.holds_no_more_at.ensures ∙ on)

pub returns-then-not-holds_no_more_at : goal.returns-then-not-holds_no_more_at
returns-then-not-holds_no_more_at c =
    let off : c.holds_no_more_at.result ≡ false = grind (arith, c.if-not-holds_no_more_at.true) in
    more_at c.args.self.now c.args.view c.args.node c.args.from c.loop-i.i _ c.holds_no_more_at.result c.holds_no_more_at.ensures off

pub returns : goal.returns
returns c =
    let done : c.change_count-last.result ≤ c.loop-i.i = omega (arith, c.loop-i-test.false) in
    held_all c.args.self.now c.args.view c.args.node _ _ _ c.loop-i.i _ c.first_change-first.ensures.point c.change_count-last.ensures done c.loop-i.invariant
