use Rattle.std.proofs.Common.{sym, ◌∙◌}
use Rattle.cluster_top.proofs.WordReplays.{generated_unwritten, generated_written}
use Rattle.replay_core.proofs.Endings.{writing_pushes}
use Rattle.cluster_top.proofs.word_replay.play_and_summarize.Goals as goal

pub returns-in-Done-clause-ended : goal.returns-in-Done-clause-ended
returns-in-Done-clause-ended g c = λ words had number n is.
    generated_written words number c.args.bytes.now _ _ _ _ had (g.K.Sink.taken c.args.out.now) (g.K.Sink.taken c.summarize.new.out)
    n is (sym c.status.ensures ∙ c.in-Done.is) c.play_bytes-played.ensures c.summarize.ensures.written c.summarize.ensures.kept c.summarize.ensures.empty

pub returns-in-Done-clause-unpushed : goal.returns-in-Done-clause-unpushed
returns-in-Done-clause-unpushed g c = λ none.
    absurd (writing_pushes _ (g.K.Sink.taken c.args.out.now) (g.K.Sink.taken c.summarize.new.out) _ c.summarize.ensures.written none)

pub returns-in_default-clause-ended : goal.returns-in_default-clause-ended
returns-in_default-clause-ended g c = λ words had number n is.
    generated_unwritten words number c.args.bytes.now _ _ had (g.K.Sink.taken c.args.out.now) n is (λ e. c.in_default.not-Done (c.status.ensures ∙ e)) c.play_bytes-played.ensures
