use Rattle.std.proofs.Common.{ap₂, ◌∙◌}
use Rattle.std.specs.Bool.{beq}
use Rattle.std.specs.Cmp.Lexicographic.{pointwise}
use Rattle.cluster_types.proofs.RowLaws.{same_rows}
use Rattle.cluster_types.proofs.row.Row4096PartialEq.eq.Goals as goal

pub returns : goal.returns
returns c =
    same_rows c.self.inside.bytes c.other.inside.bytes c.eq.result c.self.invariant c.other.invariant c.eq.ensures
    ∙ ap₂ (pointwise beq) c.self.view_is c.other.view_is
