use Rattle.std.proofs.Common.{rules}
use Rattle.wire_codec.proofs.reading.Reader.take.Goals as goal

pub returns-then-self-count-clause-cut : goal.returns-then-self-count-clause-cut
returns-then-self-count-clause-cut c = search rules
