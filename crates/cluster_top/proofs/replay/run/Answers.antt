use Rattle.cluster_top.proofs.AuditLaws.{audit_decides}
use Rattle.cluster_top.proofs.AuditWords.{audit_is_no_replay}
use Rattle.cluster_top.proofs.replay.run.Goals as goal

pub returns-then-ask_for_audit-clause-kind : goal.returns-then-ask_for_audit-clause-kind
returns-then-ask_for_audit-clause-kind g c = (λ is. c.ask_for_audit.ensures.0 c.if-ask_for_audit.true, λ asked. tt)

pub returns-then-ask_for_audit-clause-decided : goal.returns-then-ask_for_audit-clause-decided
returns-then-ask_for_audit-clause-decided g c = λ asked a.
    absurd (audit_is_no_replay _ asked a (c.ask_for_audit.ensures.0 c.if-ask_for_audit.true))

pub returns-then-ask_for_audit-clause-audit_decided : goal.returns-then-ask_for_audit-clause-audit_decided
returns-then-ask_for_audit-clause-audit_decided g c = λ p q.
    audit_decides _ _ (g.S.Source.left c.args.source.now) (g.S.Source.left c.audit_source.new.source)
    (g.K.Sink.taken c.args.out.now) (g.K.Sink.taken c.audit_source.new.out) _ _ _ _ c.audit_source.ensures.ended
    c.audit_source.ensures.read_fault c.audit_source.ensures.write_fault p q
