use Rattle.std.proofs.Common.{rules}
use Rattle.record_store.proofs.store.RecordStore.would_join.Goals as goal

pub returns-then-is_newer : goal.returns-then-is_newer
returns-then-is_newer c = search rules

pub returns-else-is_newer : goal.returns-else-is_newer
returns-else-is_newer c = search rules
