use Rattle.std.proofs.Common.{◌≡◌, map, take}
use Rattle.partition_lists.specs.Hashes.{place_after}
use Rattle.partition_lists.proofs.ranks.hash_places.Given as goal

abbrev pub invariant-loop-i : goal.invariant-loop-i
invariant-loop-i l = take l.i l.places ≡ map (place_after l.fn.p) (take l.i l.states)
