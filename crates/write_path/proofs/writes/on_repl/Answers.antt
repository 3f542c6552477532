use Rattle.std.proofs.Common.{rules}
use Rattle.write_path.proofs.writes.on_repl.Goals as goal

pub returns-clause-versions : goal.returns-clause-versions
returns-clause-versions c = search rules
