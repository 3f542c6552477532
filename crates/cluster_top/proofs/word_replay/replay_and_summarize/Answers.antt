use Rattle.std.proofs.Common.{sym, ◌∙◌}
use Rattle.replay_core.proofs.Endings.{writing_pushes}
use Rattle.cluster_top.proofs.WordReplays.{done_read, done_written, not_reached, summed}
use Rattle.cluster_top.proofs.word_replay.replay_and_summarize.Goals as goal

pub returns-in-Done-clause-ended : goal.returns-in-Done-clause-ended
returns-in-Done-clause-ended g c = λ words s n.
    summed words _ _ _ _ (g.S.Source.left c.args.source.now) (g.S.Source.left c.replay-replayed.new.source) (g.K.Sink.taken c.args.out.now) (g.K.Sink.taken c.replay-replayed.new.out)
    (g.K.Sink.taken c.summarize.new.out) s n (sym c.status.ensures ∙ c.in-Done.is) c.replay-replayed.ensures.ended c.summarize.ensures.written c.summarize.ensures.kept c.summarize.ensures.empty

pub returns-in-Done-clause-unpushed : goal.returns-in-Done-clause-unpushed
returns-in-Done-clause-unpushed g c = λ none.
    absurd (writing_pushes _ (g.K.Sink.taken c.replay-replayed.new.out) (g.K.Sink.taken c.summarize.new.out) _ c.summarize.ensures.written none)

pub returns-in-Done-clause-read_told : goal.returns-in-Done-clause-read_told
returns-in-Done-clause-read_told g c = λ other. c.replay-replayed.ensures.read_told (done_read _ (sym c.status.ensures ∙ c.in-Done.is))

pub returns-in-Done-clause-write_told : goal.returns-in-Done-clause-write_told
returns-in-Done-clause-write_told g c = λ other. c.summarize.ensures.write_told other ∙ c.replay-replayed.ensures.write_told (done_written _ (sym c.status.ensures ∙ c.in-Done.is))

pub returns-in_default : goal.returns-in_default
returns-in_default g c = record {
  ended = λ words s n.
      not_reached words _ _ (g.S.Source.left c.args.source.now) (g.S.Source.left c.replay-replayed.new.source) (g.K.Sink.taken c.args.out.now) (g.K.Sink.taken c.replay-replayed.new.out)
      s n (λ e. c.in_default.not-Done (c.status.ensures ∙ e)) c.replay-replayed.ensures.ended;
  read_fault = c.replay-replayed.ensures.read_fault;
  write_fault = c.replay-replayed.ensures.write_fault;
  read_told = c.replay-replayed.ensures.read_told;
  write_told = c.replay-replayed.ensures.write_told;
  unpushed = c.replay-replayed.ensures.unpushed;
}
