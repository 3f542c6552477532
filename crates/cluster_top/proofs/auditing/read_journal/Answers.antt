use Rattle.std.proofs.Common.{rules}
use Rattle.cluster_top.proofs.auditing.read_journal.Goals as goal

pub returns-in-Err-TooLong-clause-err : goal.returns-in-Err-TooLong-clause-err
returns-in-Err-TooLong-clause-err g c = search rules
