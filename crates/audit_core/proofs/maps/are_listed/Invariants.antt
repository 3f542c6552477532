use Rattle.std.proofs.Common.{◌≡◌, take, map}
use Rattle.audit_core.specs.Wholes.{listed_member}
use Rattle.audit_core.proofs.maps.are_listed.Given as goal

abbrev pub invariant-loop-i : goal.invariant-loop-i
invariant-loop-i l = take l.i l.shown ≡ take l.i (map (listed_member l.members) l.ids)
