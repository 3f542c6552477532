use Rattle.std.proofs.Common.{◌≡◌, true, false, sym, ◌∙◌, arith}
use Rattle.audit_core.proofs.KeyLaws.{member_rises, member_right, audits_kept, key_absent, key_unheld, key_held}
use Rattle.audit_core.proofs.judge.Judge.whole_key.Goals as goal

pub returns-in_default-clause-key : goal.returns-in_default-clause-key
returns-in_default-clause-key c = key_absent c.args.self.now c.args.view c.args.node c.args.p (sym c.in_default.ensures)

pub returns-then-not-held_any_at-clause-key : goal.returns-then-not-held_any_at-clause-key
returns-then-not-held_any_at-clause-key c =
    let unheld : c.held_any_at.result ≡ false = grind (arith, c.if-not-held_any_at.true) in
    key_unheld c.args.self.now c.args.view c.args.node c.args.p c.in-Some.entry (sym c.in-Some.ensures) (sym c.held_any_at.ensures ∙ unheld)

pub judge_exchanged-requires-clause-rises : goal.judge_exchanged-requires-clause-rises
judge_exchanged-requires-clause-rises c = member_rises c.args.self.now c.args.view c.args.node c.in-Some.entry c.requires.audits (sym c.in-Some.ensures)

pub judge_exchanged-requires-clause-right : goal.judge_exchanged-requires-clause-right
judge_exchanged-requires-clause-right c = member_right c.args.self.now c.args.view c.args.node c.args.p c.in-Some.entry c.requires.audits (sym c.in-Some.ensures)

pub returns-clause-key : goal.returns-clause-key
returns-clause-key c =
    let held : c.held_any_at.result ≡ true = grind (arith, c.if-not-held_any_at.false) in
    key_held c.args.self.now c.judge_exchanged.new.self c.args.view c.args.node c.args.p c.in-Some.entry (sym c.in-Some.ensures) (sym c.held_any_at.ensures ∙ held) c.in_ok-judge_exchanged.ensures c.stamp_at.result c.stamp_at.ensures

pub returns-clause-audits : goal.returns-clause-audits
returns-clause-audits c = λ i h. audits_kept c.args.self.now c.judge_exchanged.new.self i c.args.view c.args.node c.args.p c.in-Some.entry _ h (sym c.in-Some.ensures) c.in_ok-judge_exchanged.ensures
