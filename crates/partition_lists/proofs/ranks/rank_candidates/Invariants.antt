use Rattle.std.proofs.Common.{◌≡◌, map, take}
use Rattle.partition_lists.specs.Candidates.{rank_in}
use Rattle.partition_lists.specs.RankKeys.{key_of}
use Rattle.partition_lists.proofs.ranks.rank_candidates.Given as goal

abbrev pub invariant-loop-i : goal.invariant-loop-i
invariant-loop-i l = take l.i l.keys ≡ map key_of (map (rank_in l.candidates) (take l.i l.candidates))
