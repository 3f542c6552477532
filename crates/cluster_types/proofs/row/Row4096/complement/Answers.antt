use Rattle.std.proofs.Common.{not, List, Bool, ap, ◌∙◌}
use Rattle.cluster_types.specs.Rows.{bit}
use Rattle.cluster_types.proofs.RowLaws.{bits_size}
use Rattle.cluster_types.proofs.RowPairs.{turned_bits}
use Rattle.cluster_types.proofs.row.Row4096.complement.Goals as goal

pub invariant_of-result : goal.invariant_of-result
invariant_of-result c = record { size = c.turn.ensures.size; small = c.turn.ensures.small }

pub returns-clause-each : goal.returns-clause-each
returns-clause-each c p lt =
    turned_bits c.turn.new.bytes c.self.inside.bytes c.self.invariant c.turn.ensures.each p lt
    ∙ ap (λ (row : List Bool). not (bit row p)) c.self.view_is

pub returns-clause-size : goal.returns-clause-size
returns-clause-size c = bits_size c.turn.new.bytes
