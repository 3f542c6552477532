use Rattle.record_store.proofs.RoomLaws.{counts_none}
use Rattle.record_store.proofs.store.no_counts.Goals as goal

pub returns-clause-none : goal.returns-clause-none
returns-clause-none c = counts_none 4096
