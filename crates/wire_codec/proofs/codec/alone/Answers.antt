use Rattle.std.proofs.Common.{rules}
use Rattle.wire_codec.proofs.codec.alone.Goals as goal

pub returns : goal.returns
returns c = search rules
