use Rattle.replay_core.proofs.Endings.{from_source, source_decides}
use Rattle.replay_core.proofs.replaying.replay.Goals as goal

pub returns-in-Ok-clause-decided : goal.returns-in-Ok-clause-decided
returns-in-Ok-clause-decided g c = λ p q.
    source_decides _ _ (g.S.Source.left c.args.source.now) (g.S.Source.left c.read_all.new.source)
    (g.K.Sink.taken c.args.out.now) (g.K.Sink.taken c.replay_bytes.new.out) _ _ _ _
    (c.replay_bytes.ensures.ended (g.S.Source.left c.args.source.now) (g.S.Source.left c.read_all.new.source)
    (from_source (g.S.Source.left c.args.source.now) (g.S.Source.left c.read_all.new.source) c.in-Ok.bytes.items _ c.in-Ok.ensures.whole c.in-Ok.ensures.within c.as_slice.ensures.value))
    (λ e. absurd (c.replay_bytes.ensures.read_fault e)) c.replay_bytes.ensures.write_fault p q
