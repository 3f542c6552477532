use Rattle.cluster_types.proofs.RowLaws.{bits_size}
use Rattle.cluster_types.proofs.row.Row4096.put.Goals as goal

pub invariant_of-self : goal.invariant_of-self
invariant_of-self c = record { size = c.set_bit.ensures.size; small = c.set_bit.ensures.small }

pub returns-clause-size : goal.returns-clause-size
returns-clause-size c = bits_size c.set_bit.new.bytes
