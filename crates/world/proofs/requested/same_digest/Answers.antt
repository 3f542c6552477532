use Rattle.std.proofs.Common.{subst, ◌∙◌}
use Rattle.wire_messages.specs.Versions.{AreBytes}
use Rattle.world.proofs.requested.same_digest.Goals as goal

pub returns-clause-proper : goal.returns-clause-proper
returns-clause-proper c = record {
  size = c.bytes-bytes.ensures.size;
  each = subst AreBytes (c.as_slice.ensures ∙ c.bytes-bytes.ensures.same) c.are_bytes.ensures;
}
