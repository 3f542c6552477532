use Rattle.std.proofs.Common.{string_bytes}
use Rattle.cluster_top.proofs.AuditWords.{one_word}
use Rattle.cluster_top.proofs.words.ask_for_audit.Goals as goal

pub returns-then-words-eq1 : goal.returns-then-words-eq1
returns-then-words-eq1 c = one_word string_bytes c.args.words.now _ c.is_audit_word.result c.if-words-eq1.true c.index-words-0.is c.is_audit_word.ensures
