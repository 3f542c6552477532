use Rattle.std.proofs.Common.{rules}
use Rattle.emigrate.proofs.outgoing.Outgoing.sent.Goals as goal

pub returns : goal.returns
returns c = search rules
