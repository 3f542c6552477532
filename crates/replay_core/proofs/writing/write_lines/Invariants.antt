use Rattle.std.proofs.Common.{◌≡◌, take}
use Rattle.journal_text.specs.Text as texts
use Rattle.replay_core.proofs.StreamLaws.{Buffered}
use Rattle.replay_core.proofs.writing.write_lines.Given as goal

abbrev pub invariant-loop-line : goal.invariant-loop-line
invariant-loop-line g l = record {
  buffered : Buffered (g.K.Sink.taken l.initial.out) (g.K.Sink.taken l.out) (texts.text (take l.line-index l.lines)) l.text;
  told : g.K.Sink.faults l.out ≡ g.K.Sink.faults l.initial.out;
}
