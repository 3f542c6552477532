use Rattle.std.proofs.Common.{All, take}
use Rattle.wire_messages.specs.Nodes.{FitsMember}
use Rattle.node_steps.proofs.fields.members_fit.Given as goal

-- the members so far have a spelling
abbrev pub invariant-loop-member : goal.invariant-loop-member
invariant-loop-member l = All FitsMember (take l.member-index l.member-items)
