use Rattle.journal_text.proofs.PieceLaws.{on_each_fault}
use Rattle.cluster_top.proofs.FrontLaws.{no_line_written}
use Rattle.cluster_top.proofs.auditing.write_verdict.Goals as goal
use Rattle.std.proofs.Common.{rules}

pub returns-in_err-line-clause-front : goal.returns-in_err-line-clause-front
returns-in_err-line-clause-front g c = on_each_fault _ (no_line_written _ _)

pub returns-clause-ok : goal.returns-clause-ok
returns-clause-ok g c = search rules

pub returns-clause-front : goal.returns-clause-front
returns-clause-front g c = search rules
