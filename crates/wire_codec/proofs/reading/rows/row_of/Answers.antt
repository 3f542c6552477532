use Rattle.wire_codec.proofs.reading.rows.row_of.Goals as goal

pub returns : goal.returns
returns c = c.from_bytes.ensures.row
