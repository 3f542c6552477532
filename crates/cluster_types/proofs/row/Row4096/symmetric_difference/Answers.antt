use Rattle.std.proofs.Common.{not, List, Bool, ap, ap₂, ◌∙◌}
use Rattle.std.specs.Bool.{beq}
use Rattle.cluster_types.specs.RowBytes.{bits_of}
use Rattle.cluster_types.specs.Rows.{bit}
use Rattle.cluster_types.proofs.RowLaws.{bits_size}
use Rattle.cluster_types.proofs.RowPairs.{unlike_bits}
use Rattle.cluster_types.proofs.row.Row4096.symmetric_difference.Goals as goal

pub invariant_of-result : goal.invariant_of-result
invariant_of-result c = record { size = c.xor_into.ensures.size; small = c.xor_into.ensures.small }

pub returns-clause-each : goal.returns-clause-each
returns-clause-each c p =
    unlike_bits c.xor_into.new.bytes c.self.inside.bytes c.as_slice.result.now c.xor_into.ensures.each p
    ∙ ap₂ (λ (a b : List Bool). not (beq (bit a p) (bit b p))) c.self.view_is (ap bits_of c.as_slice.ensures ∙ c.other.view_is)

pub returns-clause-size : goal.returns-clause-size
returns-clause-size c = bits_size c.xor_into.new.bytes
