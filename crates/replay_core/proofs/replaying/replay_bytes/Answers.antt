use Rattle.std.proofs.Common.{sym, ◌∙◌}
use Rattle.journal_text.specs.Text.{text}
use Rattle.replay_core.specs.Outcome.{HadNoMore, HadScript, HadTooMuch}
use Rattle.replay_core.proofs.Endings.{ended_unwritten, ended_written, short_script, writing_pushes}
use Rattle.replay_core.proofs.replaying.replay_bytes.Goals as goal

pub returns-in-Done-clause-ended : goal.returns-in-Done-clause-ended
returns-in-Done-clause-ended g c = λ had left h.
    ended_written (HadScript had left) (HadTooMuch had left) (HadNoMore had left) text c.args.bytes.now _ _ _ _ (g.K.Sink.taken c.args.out.now) (g.K.Sink.taken c.transcribe.new.out)
    h (short_script had left c.args.bytes.now h) (sym c.status.ensures ∙ c.in-Done.is) c.play_bytes-played.ensures c.transcribe.ensures.written c.transcribe.ensures.kept c.transcribe.ensures.empty

pub returns-in-Done-clause-unpushed : goal.returns-in-Done-clause-unpushed
returns-in-Done-clause-unpushed g c = λ none.
    absurd (writing_pushes _ (g.K.Sink.taken c.args.out.now) (g.K.Sink.taken c.transcribe.new.out) _ c.transcribe.ensures.written none)

pub returns-in_default-clause-ended : goal.returns-in_default-clause-ended
returns-in_default-clause-ended g c = λ had left h.
    ended_unwritten (HadScript had left) (HadTooMuch had left) (HadNoMore had left) text c.args.bytes.now _ _ (g.K.Sink.taken c.args.out.now)
    h (short_script had left c.args.bytes.now h) (λ e. c.in_default.not-Done (c.status.ensures ∙ e)) c.play_bytes-played.ensures
