use Rattle.std.proofs.Common.{rules}
use Rattle.exchange.proofs.exchanging.step.Goals as goal

pub of-requires-clause-missing : goal.of-requires-clause-missing
of-requires-clause-missing c = search rules

pub of-requires-2-clause-full : goal.of-requires-2-clause-full
of-requires-2-clause-full c = search rules
