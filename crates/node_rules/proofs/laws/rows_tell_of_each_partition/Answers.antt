use Rattle.node_rules.proofs.Partitions.{row_tells, row_is_row, done_tells, done_length, settled_tells, rest_tells}
use Rattle.node_rules.proofs.laws.rows_tell_of_each_partition.Goals as goal

pub returns : goal.returns
returns c = record { row = row_tells; is_row = row_is_row; done = done_tells; size = λ f n. done_length f n 0; settled = settled_tells; rest = rest_tells }
