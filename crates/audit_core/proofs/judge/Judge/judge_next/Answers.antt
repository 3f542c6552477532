use Rattle.std.proofs.Common.{◌≡◌, Some, sym, subst}
use Rattle.std.specs.Prelude.{slice_get}
use Rattle.audit_core.specs.Known.{node_at, stamps_at}
use Rattle.audit_core.specs.Wholes.{exchanged_by}
use Rattle.audit_state.specs.Stamps.{judged_of}
use Rattle.audit_core.proofs.JudgeLaws.{line_some, judged_behind}
use Rattle.audit_core.proofs.judge.Judge.judge_next.Goals as goal

pub judge_line-requires-clause-behind : goal.judge_line-requires-clause-behind
judge_line-requires-clause-behind c =
    let next : slice_get (exchanged_by (node_at c.args.self.now c.args.node)) (judged_of (stamps_at c.args.self.now c.args.node c.args.p)) ≡ Some c.in-Some.line =
    subst (λ i. slice_get (exchanged_by (node_at c.args.self.now c.args.node)) i ≡ Some c.in-Some.line) (sym c.requires.judged) (sym c.in-Some.ensures) in
    judged_behind c.args.self.now c.args.node c.args.p c.in-Some.line (stamps_at c.args.self.now c.args.node c.args.p) c.requires.rises next c.requires.right

pub returns-in_ok-judge_line : goal.returns-in_ok-judge_line
returns-in_ok-judge_line c = line_some c.args.node c.args.p c.args.i c.in-Some.line c.args.self.now c.judge_line.new.self c.requires.rises (sym c.in-Some.ensures) c.requires.judged c.requires.right c.in_ok-judge_line.ensures
