use Rattle.std.proofs.Common.{◌≡◌, map, take}
use Rattle.node_rules.specs.Agreement.{others_among}
use Rattle.progress.specs.Told.{silent_member}
use Rattle.progress.proofs.told.silent_others.Given as goal

abbrev pub invariant-loop-member : goal.invariant-loop-member
invariant-loop-member l = l.heard.items ≡ map silent_member (others_among l.me (take l.member-index l.member-items))
