use Rattle.std.proofs.Common.{rules}
use Rattle.record_store.proofs.store.RecordStore.row.Goals as goal

pub loop-number-init : goal.loop-number-init
loop-number-init c = search rules
