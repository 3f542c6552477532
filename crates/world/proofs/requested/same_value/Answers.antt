use Rattle.std.proofs.Common.{subst}
use Rattle.wire_messages.specs.Versions.{AreBytes}
use Rattle.world.proofs.requested.same_value.Goals as goal

pub returns-in_err-copy-clause-proper : goal.returns-in_err-copy-clause-proper
returns-in_err-copy-clause-proper c = record { limit = c.as_slice.ensures.limit; each = subst AreBytes c.as_slice.ensures.value c.are_bytes.ensures }

pub returns-clause-proper : goal.returns-clause-proper
returns-clause-proper c = record { limit = c.as_slice.ensures.limit; each = subst AreBytes c.as_slice.ensures.value c.are_bytes.ensures }
