use Rattle.cluster_types.specs.Rows.{bit}
use Rattle.cluster_types.proofs.RowPairs.{lacked_bit_is}
use Rattle.cluster_types.proofs.row.Row4096.difference.Goals as goal

pub returns-clause-each : goal.returns-clause-each
returns-clause-each c p =
    lacked_bit_is (bit c.args.other.now p) (bit c.args.self.now p) (bit c.or.new.self p) (bit c.symmetric_difference.result p)
    (c.or.ensures.each p) (c.symmetric_difference.ensures.each p)
