use Rattle.std.proofs.Common.{rules}
use Rattle.write_path.proofs.writes.apply_planned.Goals as goal

pub returns-clause-versions : goal.returns-clause-versions
returns-clause-versions c = search rules

pub returns-clause-room : goal.returns-clause-room
returns-clause-room c = search rules
