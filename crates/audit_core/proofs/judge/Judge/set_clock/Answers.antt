use Rattle.audit_core.proofs.PassLaws.{clock_takes}
use Rattle.audit_core.proofs.judge.Judge.set_clock.Goals as goal

pub returns : goal.returns
returns c = clock_takes c.args.self.now c.note_clock.new.self c.args.node c.args.time c.note_clock.ensures
