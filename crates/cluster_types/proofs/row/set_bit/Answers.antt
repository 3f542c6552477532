use Rattle.std.proofs.Common.{◌*◌, ◌^◌, ◌%◌, ℕ, get_or, set, ap, ◌∙◌}
use Rattle.std.specs.Prelude.{bit_or}
use Rattle.cluster_types.specs.RowBytes.{bits_of}
use Rattle.cluster_types.proofs.RowLaws.{row_with_bit}
use Rattle.cluster_types.proofs.row.set_bit.Goals as goal

pub returns-clause-row : goal.returns-clause-row
returns-clause-row c =
    ap (λ (i : ℕ). bits_of (set c.args.bytes.now i (bit_or (get_or c.args.bytes.now i 0) (1 * 2 ^ (c.args.p % 8) % 256)))) c.from.ensures
    ∙ row_with_bit c.args.bytes.now c.args.p c.requires.size c.requires.partition
