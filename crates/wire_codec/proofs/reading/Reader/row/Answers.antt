use Rattle.std.proofs.Common.{◌≡◌, length, ap, ◌∙◌}
use Rattle.std.proofs.lemmas.List.{length-take-le}
use Rattle.wire_codec.proofs.reading.Reader.row.Goals as goal

pub row_of-row-requires : goal.row_of-row-requires
row_of-row-requires c =
    ap length c.in_ok-take.ensures.front ∙ length-take-le 512 c.args.self.now.rest.now c.in_ok-take.ensures.whole
