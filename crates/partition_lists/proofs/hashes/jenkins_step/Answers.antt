use Rattle.std.proofs.Common.{rules}
use Rattle.partition_lists.proofs.hashes.jenkins_step.Goals as goal

pub returns : goal.returns
returns c = search rules
