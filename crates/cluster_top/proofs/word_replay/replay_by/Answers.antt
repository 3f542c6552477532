use Rattle.cluster_top.proofs.WordReplays.{decided, not_summed}
use Rattle.cluster_top.proofs.word_replay.replay_by.Goals as goal

pub returns-in-Some-clause-decided : goal.returns-in-Some-clause-decided
returns-in-Some-clause-decided g c = λ p q.
    decided c.args.words _ _ (g.S.Source.left c.args.source.now) (g.S.Source.left c.args.source.now)
    (g.K.Sink.taken c.args.out.now) (g.K.Sink.taken c.replay_number.new.out) _ _ _ _
    (c.replay_number.ensures.ended c.args.words (g.S.Source.left c.args.source.now) c.in-Some.is)
    (λ e. absurd (c.replay_number.ensures.read_fault e)) c.replay_number.ensures.write_fault p q

pub returns-in-None-clause-decided : goal.returns-in-None-clause-decided
returns-in-None-clause-decided g c = λ p q.
    decided c.args.words _ _ (g.S.Source.left c.args.source.now) (g.S.Source.left c.replay_and_summarize.new.source)
    (g.K.Sink.taken c.args.out.now) (g.K.Sink.taken c.replay_and_summarize.new.out) _ _ _ _
    (c.replay_and_summarize.ensures.ended c.args.words c.if-words.true c.in-None.is)
    c.replay_and_summarize.ensures.read_fault c.replay_and_summarize.ensures.write_fault p q

pub returns-in-None-2-clause-ended : goal.returns-in-None-2-clause-ended
returns-in-None-2-clause-ended g c =
    not_summed c.args.words _ _ (g.S.Source.left c.args.source.now) (g.S.Source.left c.replay.new.source)
    (g.K.Sink.taken c.args.out.now) (g.K.Sink.taken c.replay.new.out) c.if-words.false c.in-None-2.is c.replay.ensures.ended
