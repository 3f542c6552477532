use Rattle.std.proofs.Common.{◌+◌}
use Rattle.std.proofs.lemmas.Result.{on_err_weaker}
use Rattle.journal_text.proofs.PieceLaws.{on_each_fault}
use Rattle.replay_core.proofs.TextLaws.{line_buffered, front_of_text, front_of_text_written}
use Rattle.replay_core.proofs.writing.write_lines.Goals as goal

pub returns-in_err-push-clause-front : goal.returns-in_err-push-clause-front
returns-in_err-push-clause-front g c = on_each_fault _ (front_of_text _ _ _ _ _ c.loop-line-test.true c.loop-line.invariant.buffered)

pub returns-in_err-write_all-clause-front : goal.returns-in_err-write_all-clause-front
returns-in_err-write_all-clause-front g c =
    on_each_fault _ (front_of_text_written _ _ _ c.args.lines.now (c.loop-line.line-index + 1) _ _
    (line_buffered _ _ _ _ _ _ _ c.loop-line.invariant.buffered c.loop-line-test.true c.line-item.is c.in_ok-push.ensures.text)
    c.as_slice.ensures c.in_err-write_all.ensures.front)

pub returns-clause-front : goal.returns-clause-front
returns-clause-front g c =
    on_err_weaker _ (front_of_text_written _ _ _ _ _ _ _ c.loop-line.invariant.buffered c.as_slice-2.ensures) c.write_all-2.ensures.front
