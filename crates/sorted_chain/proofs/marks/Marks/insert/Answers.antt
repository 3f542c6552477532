use Rattle.std.proofs.Common.{rules}
use Rattle.sorted_chain.proofs.marks.Marks.insert.Goals as goal

pub returns-clause-marks : goal.returns-clause-marks
returns-clause-marks c = search rules
