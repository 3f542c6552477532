use Rattle.std.proofs.Common.{Err, ap}
use Rattle.cluster_top.proofs.AuditLaws.{refused_verdict}
use Rattle.cluster_top.proofs.auditing.tell.Goals as goal

pub returns-clause-ended : goal.returns-clause-ended
returns-clause-ended g c = λ had left h.
    refused_verdict _ _ c.args.journal.lines c.args.verdict had left (g.K.Sink.taken c.args.out.now) (g.K.Sink.taken c.write_verdict.new.out)
    c.untold-in-Err-NoMemory.ensures.status c.untold-in-Err-NoMemory.ensures.empty
    (ap g.K.Sink.taken (c.in-Err-NoMemory.ensures.refused (ap Err c.in-Err-NoMemory.field-0-is))) h
