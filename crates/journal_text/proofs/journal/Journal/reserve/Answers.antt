use Rattle.std.proofs.Common.{rules}
use Rattle.journal_text.proofs.journal.Journal.reserve.Goals as goal

pub returns-clause-kept : goal.returns-clause-kept
returns-clause-kept c = search rules
