use Rattle.std.proofs.Common.{replicate, refl}
use Rattle.cluster_types.proofs.RowLaws.{bits_size, clear_row, zero_bytes}
use Rattle.cluster_types.proofs.row.Row4096.new.Goals as goal

pub invariant_of-result : goal.invariant_of-result
invariant_of-result c = zero_bytes 512 refl

pub returns-clause-clear : goal.returns-clause-clear
returns-clause-clear c = clear_row 512

pub returns-clause-size : goal.returns-clause-size
returns-clause-size c = bits_size (replicate 512 0)
