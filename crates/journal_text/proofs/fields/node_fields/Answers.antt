use Rattle.std.proofs.Common.{rules}
use Rattle.journal_text.proofs.fields.node_fields.Goals as goal

pub returns-in-Stop-clause-some : goal.returns-in-Stop-clause-some
returns-in-Stop-clause-some c = search rules
