use Rattle.std.proofs.Common.{◌≡◌, List, Bool, length, sym, ap, ap₂, subst, ◌∙◌}
use Rattle.cluster_types.specs.RowBytes.{bits_of}
use Rattle.cluster_types.specs.Rows.{bit}
use Rattle.cluster_types.proofs.RowLaws.{bit_within, bits_size}
use Rattle.cluster_types.proofs.row.Row4096.get.Goals as goal

pub returns-clause-value : goal.returns-clause-value
returns-clause-value c =
    c.is_set.ensures
    ∙ sym (bit_within c.as_slice.result.now c.number.result c.number.ensures.range)
    ∙ ap₂ bit (ap bits_of c.as_slice.ensures ∙ c.self.view_is) c.number.ensures.same

pub returns-clause-size : goal.returns-clause-size
returns-clause-size c = subst (λ (row : List Bool). length row ≡ 4096) c.self.view_is (bits_size c.self.inside.bytes)
