use Rattle.std.proofs.Common.{rules}
use Rattle.replay_core.proofs.status.code.Goals as goal

pub returns-in-BadTranscript : goal.returns-in-BadTranscript
returns-in-BadTranscript c = search rules

pub returns-in-WriteFault : goal.returns-in-WriteFault
returns-in-WriteFault c = search rules
