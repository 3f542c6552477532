use Rattle.audit_core.proofs.PassLaws.{stop_takes}
use Rattle.audit_core.proofs.judge.Judge.leave.Goals as goal

pub returns : goal.returns
returns c = stop_takes c.args.self.now c.note_stop.new.self c.args.node c.note_stop.ensures
