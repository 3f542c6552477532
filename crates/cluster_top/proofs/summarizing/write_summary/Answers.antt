use Rattle.journal_text.proofs.PieceLaws.{on_each_fault}
use Rattle.cluster_top.specs.Transcripts as transcripts
use Rattle.cluster_top.proofs.FrontLaws.{no_line_written}
use Rattle.cluster_top.proofs.summarizing.write_summary.Goals as goal

pub returns-in_err-summary-clause-front : goal.returns-in_err-summary-clause-front
returns-in_err-summary-clause-front g c =
    on_each_fault _ (no_line_written (g.K.Sink.taken c.args.out.now) (transcripts.object_of (transcripts.counts_of c.args.journal.now.lines)))
