use Rattle.cluster_types.proofs.RowLaws.{bits_size}
use Rattle.cluster_types.proofs.row.Row4096.from_bytes.Goals as goal

pub returns-clause-size : goal.returns-clause-size
returns-clause-size c = bits_size c.copy_from_slice.new.self
