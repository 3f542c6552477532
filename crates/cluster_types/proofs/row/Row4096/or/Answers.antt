use Rattle.std.proofs.Common.{◌||◌, List, Bool, ap, ap₂, ◌∙◌}
use Rattle.cluster_types.specs.RowBytes.{bits_of}
use Rattle.cluster_types.specs.Rows.{bit, or_rows}
use Rattle.cluster_types.proofs.OrRows.{or_row}
use Rattle.cluster_types.proofs.RowLaws.{bits_size, or_bits}
use Rattle.cluster_types.proofs.row.Row4096.or.Goals as goal

pub invariant_of-self : goal.invariant_of-self
invariant_of-self c = record { size = c.or_into.ensures.size; small = c.or_into.ensures.small }

pub returns-clause-row : goal.returns-clause-row
returns-clause-row c =
    or_row c.or_into.new.bytes c.self.inside.bytes c.as_slice.result.now
    (or_bits c.or_into.new.bytes c.self.inside.bytes c.as_slice.result.now c.or_into.ensures.each)
    ∙ ap₂ or_rows c.self.view_is (ap bits_of c.as_slice.ensures ∙ c.other.view_is)

pub returns-clause-each : goal.returns-clause-each
returns-clause-each c p =
    or_bits c.or_into.new.bytes c.self.inside.bytes c.as_slice.result.now c.or_into.ensures.each p
    ∙ ap₂ (λ (a b : List Bool). bit a p || bit b p) c.self.view_is (ap bits_of c.as_slice.ensures ∙ c.other.view_is)

pub returns-clause-size : goal.returns-clause-size
returns-clause-size c = bits_size c.or_into.new.bytes
