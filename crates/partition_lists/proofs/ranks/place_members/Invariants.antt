use Rattle.std.proofs.Common.{◌≡◌, take}
use Rattle.partition_lists.specs.Candidates.{candidates_of}
use Rattle.partition_lists.proofs.ranks.place_members.Given as goal

abbrev pub invariant-loop-i : goal.invariant-loop-i
invariant-loop-i l = take l.i l.candidates ≡ candidates_of (take l.i l.members) l.fn.p
