use Rattle.std.proofs.Common.{rules}
use Rattle.wire_codec.proofs.kind.KindTryFromU8.try_from.Goals as goal

pub returns-in-18 : goal.returns-in-18
returns-in-18 c = search rules
